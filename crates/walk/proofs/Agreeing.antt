-- The reading that checks and the total one agree, item by item.
use Rattle.std.proofs.Common.{◌≡◌, ℕ, zero, suc, ◌*◌, ◌≤◌, Bool, true, false, cond, eqb, ltb, leb, List, [], ◌∷◌, length, take, drop, Some, sym, refl, subst, arith}
use Rattle.model.specs.Tree.{Text, Expr, Exprs, Class, int, float, str, attr, binop, tuple, list, subscript, end, item, pyclass, no_class, add_class}
use Rattle.model.specs.Read as Read
use Rattle.model.specs.Read.{Out, read, fault, bind, place, bit, Head, constant_head, name_head, attr_head, binop_head, tuple_head, list_head, subscript_head, expr as strict_expr, one_class as strict_class}
use Rattle.model.proofs.Parts.{Body, last, next, framed}
use Rattle.walk.specs.Total.{then, byte, number, text, count, rows, listed, optional, texted, counted, head, parts, expr, any_expr, attribute, argument, star, exprs, arguments, any_star, function, functions, attributes, class_over, one_class, classes}
use Rattle.walk.specs.Reached.{Agreement}

abbrev pub Agree : {A : Type 0} → Out A → A × List ℕ → Type 0
Agree (read a r) p = p ≡ (a, r)
Agree (fault q) p = Unit {0}

abbrev pub Agrees : {A : Type 0} → (List ℕ → Out A) → (List ℕ → A × List ℕ) → Type 0
Agrees one two = (bs : List ℕ) → Agree (one bs) (two bs)

abbrev pub AgreesIf : {A : Type 0} → (Bool → List ℕ → Out A) → (Bool → List ℕ → A × List ℕ) → Type 0
AgreesIf one two = (b : Bool) (bs : List ℕ) → Agree (one b bs) (two b bs)

pub agreed : {A : Type 0} (o : Out A) (p : A × List ℕ) (a : A) (r : List ℕ) → Agree o p → o ≡ read a r → p ≡ (a, r)
agreed o p a r g e = subst (λ (x : Out _). Agree x p) e g

next_agrees : {A B : Type 0} (o : Out A) (p : A × List ℕ) (f : A → List ℕ → Out B) (g : A → List ℕ → B × List ℕ) → Agree o p → ((a : A) (r : List ℕ) → Agree (f a r) (g a r)) → Agree (bind o f) (then p g)
next_agrees (read a r) p f g e h = subst (λ (x : _ × List ℕ). Agree (f a r) (then x g)) (sym e) (h a r)
next_agrees (fault q) p f g e h = tt

-- a test that the total reading does not make
either_agrees : {A : Type 0} (b : Bool) (x y : Out A) (p : A × List ℕ) → Agree x p → Agree y p → Agree (cond b x y) p
either_agrees true x y p g h = g
either_agrees false x y p g h = h

-- and one that both make
cond_agrees : {A : Type 0} (b : Bool) (x y : Out A) (p q : A × List ℕ) → Agree x p → Agree y q → Agree (cond b x y) (cond b p q)
cond_agrees true x y p q g h = g
cond_agrees false x y p q g h = h

byte_agrees : (n : ℕ) → Agrees (Read.byte n) byte
byte_agrees n [] = tt
byte_agrees n (b ∷ bs) = refl

pub number_agrees : (n : ℕ) → Agrees (Read.number n) number
number_agrees n [] = tt
number_agrees n (b ∷ []) = tt
number_agrees n (b ∷ c ∷ bs) = refl

text_agrees : (n : ℕ) → Agrees (Read.text n) text
text_agrees n bs = next_agrees (Read.number n bs) (number bs) _ (λ k r. (take k r, drop k r)) (number_agrees n bs) λ k r. either_agrees (leb k (length r)) (read (take k r) (drop k r)) (fault n) _ refl tt

fields_agrees : (n limit : ℕ) → Agrees (Read.fields n limit) number
fields_agrees n limit bs = next_agrees (Read.number n bs) (number bs) _ (λ k r. (k, r)) (number_agrees n bs) λ m r. either_agrees (ltb m limit) (read m r) (fault (place n bs)) (m, r) refl tt

star_fields_agrees : (n : ℕ) → Agrees (Read.star_fields n) number
star_fields_agrees n bs = next_agrees (Read.fields n 4 bs) (number bs) _ (λ k r. (k, r)) (fields_agrees n 4 bs) λ m r. either_agrees (bit m 1) (fault (place n bs)) (read m r) (m, r) tt refl

count_agrees : (n : ℕ) → Agrees (Read.count n) (count true)
count_agrees n bs = next_agrees (Read.number n bs) (number bs) _ (λ k r. (k, r)) (number_agrees n bs) λ k r. either_agrees (eqb k 0) (fault (place n bs)) (read k r) (k, r) tt refl

module _ {A L : Type 0} (none : L) (more : A → L → L) (one : List ℕ → Out A) (two : List ℕ → A × List ℕ) (h : Agrees one two) where
  rows_agrees : (k : ℕ) → Agrees (Read.rows none more one k) (rows none more two k)
  rows_agrees zero bs = refl
  rows_agrees (suc k) bs =
      next_agrees (one bs) (two bs) _ (λ a r. then (rows none more two k r) λ l s. (more a l, s)) (h bs) λ a r.
      next_agrees (Read.rows none more one k r) (rows none more two k r) _ (λ l s. (more a l, s)) (rows_agrees k r) λ l s. refl

  listed_agrees : (n : ℕ) → AgreesIf (Read.listed n none more one) (listed none more two)
  listed_agrees n true bs = next_agrees (Read.count n bs) (count true bs) _ (rows none more two) (count_agrees n bs) rows_agrees
  listed_agrees n false bs = refl

optional_agrees : {A : Type 0} (one : List ℕ → Out A) (two : List ℕ → A × List ℕ) → Agrees one two → AgreesIf (Read.optional one) (optional two)
optional_agrees one two h true bs = next_agrees (one bs) (two bs) _ (λ a r. (Some a, r)) (h bs) λ a r. refl
optional_agrees one two h false bs = refl

texted_agrees : (n : ℕ) (make : Text → Head) → Agrees (Read.texted n make) (texted make)
texted_agrees n make bs = next_agrees (Read.text n bs) (text bs) _ (λ s r. (make s, r)) (text_agrees n bs) λ s r. refl

counted_agrees : (n : ℕ) (make : ℕ → Head) → Agrees (Read.counted n make) (counted make)
counted_agrees n make bs = next_agrees (Read.number n bs) (number bs) _ (λ k r. (make k, r)) (number_agrees n bs) λ k r. refl

head_agrees : (n : ℕ) → Agrees (Read.head n) head
head_agrees n [] = tt
head_agrees n (t ∷ bs) =
    cond_agrees (eqb t 0) _ _ _ _ refl
    (cond_agrees (eqb t 1) _ _ _ _ refl
    (cond_agrees (eqb t 2) _ _ _ _ refl
    (cond_agrees (eqb t 3) _ _ _ _ (texted_agrees n (λ s. constant_head (int s)) bs)
    (cond_agrees (eqb t 4) _ _ _ _ (texted_agrees n (λ s. constant_head (float s)) bs)
    (cond_agrees (eqb t 5) _ _ _ _ (texted_agrees n (λ s. constant_head (str s)) bs)
    (cond_agrees (eqb t 6) _ _ _ _ refl
    (cond_agrees (eqb t 7) _ _ _ _ (texted_agrees n name_head bs)
    (cond_agrees (eqb t 8) _ _ _ _ refl
    (cond_agrees (eqb t 9) _ _ _ _ refl
    (cond_agrees (eqb t 10) _ _ _ _ (counted_agrees n tuple_head bs)
    (cond_agrees (eqb t 11) _ _ _ _ (counted_agrees n list_head bs)
    (cond_agrees (eqb t 12) _ _ _ _ refl tt))))))))))))

module _ (n p : ℕ) (one : List ℕ → Out Expr) (two : List ℕ → Expr × List ℕ) (h : Agrees one two) where
  pair_agrees : (k : Expr → Expr → Expr) → Agrees (λ bs. bind (one bs) (λ e r. bind (one r) (λ f s. read (k e f) s))) (λ bs. then (two bs) λ e r. then (two r) λ f s. (k e f, s))
  pair_agrees k bs = next_agrees (one bs) (two bs) _ (λ e r. then (two r) λ f s. (k e f, s)) (h bs) λ e r. next_agrees (one r) (two r) _ (λ f s. (k e f, s)) (h r) λ f s. refl

  row_agrees : (k : ℕ) (make : Exprs → Expr) → Agrees (λ bs. bind (Read.rows end item one k bs) (λ es r. read (make es) r)) (λ bs. then (rows end item two k bs) λ es r. (make es, r))
  row_agrees k make bs = next_agrees (Read.rows end item one k bs) (rows end item two k bs) _ (λ es r. (make es, r)) (rows_agrees end item one two h k bs) λ es r. refl

  parts_agrees : (k : Head) → Agrees (Read.parts n one p k) (parts two p k)
  parts_agrees (constant_head c) bs = refl
  parts_agrees (name_head s) bs = refl
  parts_agrees attr_head bs =
      next_agrees (one bs) (two bs) _ (λ e r. then (text r) λ s t. (attr p e s, t)) (h bs) λ e r. next_agrees (Read.text n r) (text r) _ (λ s t. (attr p e s, t)) (text_agrees n r) λ s t. refl
  parts_agrees binop_head bs = pair_agrees (binop p) bs
  parts_agrees (tuple_head k) bs = row_agrees k (tuple p) bs
  parts_agrees (list_head k) bs = row_agrees k (list p) bs
  parts_agrees subscript_head bs = pair_agrees (subscript p) bs

pub expr_agrees : (n d d' : ℕ) → d ≤ d' → Agrees (Read.expr n d) (expr n d')
unfolding strict_expr expr
expr_agrees n zero d' l bs = tt
expr_agrees n (suc d) zero l bs = absurd (omega arith)
expr_agrees n (suc d) (suc d') l bs =
    next_agrees (Read.head n bs) (head bs) _ (parts (expr n d') (place n bs)) (head_agrees n bs) (parts_agrees n (place n bs) (Read.expr n d) (expr n d') (expr_agrees n d d' (omega arith)))

-- The fields of a record, one behind another, in the form of the law's: by the map and the value of the first field's bit.
abbrev Fields : Type 0 → Type 0
Fields X = ℕ → ℕ → List ℕ → X × List ℕ

abbrev last_field : {X : Type 0} → (Bool → List ℕ → X × List ℕ) → Fields X
last_field one m v bs = one (bit m v) bs

abbrev next_field : {X Y : Type 0} → (Bool → List ℕ → X × List ℕ) → Fields Y → Fields (X × Y)
next_field one fields m v bs = then (one (bit m v) bs) λ x r. then (fields m (2 * v) r) λ y s. ((x, y), s)

abbrev AgreesFields : {B X : Type 0} → Body B X → Fields X → Type 0
AgreesFields {B} {X} body fields = (m v : ℕ) (bs : List ℕ) (k : X → List ℕ → Out B) (j : X → List ℕ → B × List ℕ) → ((x : X) (r : List ℕ) → Agree (k x r) (j x r)) → Agree (body m v k bs) (then (fields m v bs) j)

last_agrees : {B X : Type 0} (one : Bool → List ℕ → Out X) (two : Bool → List ℕ → X × List ℕ) → AgreesIf one two → AgreesFields {B = B} (last one) (last_field two)
last_agrees one two h m v bs k j g = next_agrees (one (bit m v) bs) (two (bit m v) bs) k j (h (bit m v) bs) g

field_agrees : {B X Y : Type 0} (one : Bool → List ℕ → Out X) (two : Bool → List ℕ → X × List ℕ) (body : Body B Y) (fields : Fields Y) → AgreesIf one two → AgreesFields {B = B} body fields → AgreesFields {B = B} (next one body) (next_field two fields)
field_agrees one two body fields h w m v bs k j g =
    next_agrees (one (bit m v) bs) (two (bit m v) bs) _ (λ x r. then (fields m (2 * v) r) λ y s. j (x, y) s) (h (bit m v) bs) λ x r.
    w m (2 * v) r (λ y s. k (x, y) s) (λ y s. j (x, y) s) (λ y s. g (x, y) s)

framed_agrees : {B X : Type 0} (n v : ℕ) (maps : List ℕ → Out ℕ) (body : Body B X) (fields : Fields X) (make : ℕ → Text → X → B) → Agrees maps number → AgreesFields {B = B} body fields → Agrees (framed n v maps body make) (λ bs. then (number bs) λ m r0. then (text r0) λ s r1. then (fields m v r1) λ x r. (make (place n bs) s x, r))
framed_agrees n v maps body fields make a w bs =
    next_agrees (maps bs) (number bs) _ (λ m r0. then (text r0) λ s r1. then (fields m v r1) λ x r. (make (place n bs) s x, r)) (a bs) λ m r0.
    next_agrees (Read.text n r0) (text r0) _ (λ s r1. then (fields m v r1) λ x r. (make (place n bs) s x, r)) (text_agrees n r0) λ s r1.
    w m v r1 (λ x r. read (make (place n bs) s x) r) (λ x r. (make (place n bs) s x, r)) (λ x r. refl)

module _ (n d d' : ℕ) (l : d ≤ d') where
  any_expr_agrees : AgreesIf (Read.optional (Read.expr n d)) (any_expr n d')
  any_expr_agrees = optional_agrees (Read.expr n d) (expr n d') (expr_agrees n d d' l)

  exprs_agrees : AgreesIf (Read.exprs n d) (exprs n d')
  exprs_agrees = listed_agrees end item (Read.expr n d) (expr n d') (expr_agrees n d d' l) n

  pub attribute_agrees : Agrees (Read.attribute n d) (attribute n d')
  attribute_agrees =
      framed_agrees n 1 (Read.fields n 4) _ _ (λ q s x. record { place = q; name = s; value = x.0; annotation = x.1 }) (fields_agrees n 4)
      (field_agrees _ _ _ _ any_expr_agrees (last_agrees _ _ any_expr_agrees))

  pub argument_agrees : Agrees (Read.argument n d) (argument n d')
  argument_agrees =
      framed_agrees n 1 (Read.fields n 4) _ _ (λ q s x. record { place = q; name = s; default = x.0; annotation = x.1 }) (fields_agrees n 4)
      (field_agrees _ _ _ _ any_expr_agrees (last_agrees _ _ any_expr_agrees))

  pub star_agrees : Agrees (Read.star n d) (star n d')
  star_agrees =
      framed_agrees n 2 (Read.star_fields n) _ _ (λ q s x. record { place = q; name = s; annotation = x }) (star_fields_agrees n) (last_agrees _ _ any_expr_agrees)

  arguments_agrees : AgreesIf (Read.arguments n d) (arguments n d')
  arguments_agrees = listed_agrees [] ◌∷◌ (Read.argument n d) (argument n d') argument_agrees n

  any_star_agrees : AgreesIf (Read.optional (Read.star n d)) (any_star n d')
  any_star_agrees = optional_agrees (Read.star n d) (star n d') star_agrees

  pub function_agrees : Agrees (Read.function n d) (function n d')
  function_agrees =
      framed_agrees n 1 (Read.fields n 128) _ _ (λ q s x. record { place = q; name = s; decorators = x.0; positional = x.1.0; regular = x.1.1.0; vararg = x.1.1.1.0; keyword = x.1.1.1.1.0; kwarg = x.1.1.1.1.1.0; returns = x.1.1.1.1.1.1 }) (fields_agrees n 128)
      (field_agrees _ _ _ _ exprs_agrees (field_agrees _ _ _ _ arguments_agrees (field_agrees _ _ _ _ arguments_agrees (field_agrees _ _ _ _ any_star_agrees (field_agrees _ _ _ _ arguments_agrees (field_agrees _ _ _ _ any_star_agrees (last_agrees _ _ any_expr_agrees)))))))

  pub functions_agrees : AgreesIf (Read.functions n d) (functions n d')
  functions_agrees = listed_agrees [] ◌∷◌ (Read.function n d) (function n d') function_agrees n

  pub attributes_agrees : AgreesIf (Read.attributes n d) (attributes n d')
  attributes_agrees = listed_agrees [] ◌∷◌ (Read.attribute n d) (attribute n d') attribute_agrees n

  class_over_agrees : (one : List ℕ → Out Class) (two : List ℕ → Class × List ℕ) → Agrees one two → Agrees (Read.class_over n d one) (class_over n d' two)
  class_over_agrees one two h =
      framed_agrees n 1 (Read.fields n 32) _ _ (λ q s x. pyclass q s x.0 x.1.0 x.1.1.0 x.1.1.1.0 x.1.1.1.1) (fields_agrees n 32)
      (field_agrees _ _ _ _ exprs_agrees (field_agrees _ _ _ _ functions_agrees (field_agrees _ _ _ _ attributes_agrees (field_agrees _ _ _ _ exprs_agrees (last_agrees _ _ (listed_agrees no_class add_class one two h n))))))

pub class_agrees : (n d d' : ℕ) → d ≤ d' → Agrees (Read.one_class n d) (one_class n d')
unfolding strict_class one_class
class_agrees n zero d' l bs = tt
class_agrees n (suc d) zero l bs = absurd (omega arith)
class_agrees n (suc d) (suc d') l bs = class_over_agrees n d d' (omega arith) (Read.one_class n d) (one_class n d') (class_agrees n d d' (omega arith)) bs

pub classes_agrees : (n d d' : ℕ) → d ≤ d' → AgreesIf (Read.classes n d) (classes n d')
classes_agrees n d d' l = listed_agrees no_class add_class (Read.one_class n d) (one_class n d') (class_agrees n d d' l) n

pub agreement : Agreement
agreement = record {
  expr = λ n d d' l bs a r e. agreed (Read.expr n d bs) (expr n d' bs) a r (expr_agrees n d d' l bs) e;
  attribute = λ n d d' l bs a r e. agreed (Read.attribute n d bs) (attribute n d' bs) a r (attribute_agrees n d d' l bs) e;
  argument = λ n d d' l bs a r e. agreed (Read.argument n d bs) (argument n d' bs) a r (argument_agrees n d d' l bs) e;
  star = λ n d d' l bs a r e. agreed (Read.star n d bs) (star n d' bs) a r (star_agrees n d d' l bs) e;
  function = λ n d d' l bs a r e. agreed (Read.function n d bs) (function n d' bs) a r (function_agrees n d d' l bs) e;
  one_class = λ n d d' l bs a r e. agreed (Read.one_class n d bs) (one_class n d' bs) a r (class_agrees n d d' l bs) e;
}
