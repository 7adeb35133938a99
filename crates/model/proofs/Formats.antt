-- Each kind of the format, held to its bytes.
use Rattle.std.proofs.Common.{◌≡◌, ℕ, zero, suc, ◌/◌, ◌%◌, ◌<◌, Bool, true, false, cond, eqb, List, [], ◌∷◌, ◌++◌, length, is_some, None, Option, sym, refl, ap, ◌∙◌, subst, inl, append_assoc, append-nil, arith}
use Rattle.std.proofs.lemmas.Bool.{eqb-true, eqb-false}
use Rattle.model.specs.Tree.{Text, Expr, Exprs, Attribute, Argument, Star, Function, Class, Classes, Module, Modules, py_none, py_false, py_true, int, float, str, ellipsis, constant, name, attr, binop, tuple, list, subscript, end, item, pyclass, no_class, add_class, pymodule, no_module, add_module}
use Rattle.model.specs.Encode.{bits, field, stands, each, any, number as number_bytes, text as text_bytes, exprs_count, classes_count, modules_count, constant_bytes, expr_bytes, exprs_bytes, exprs_field, list_field, attribute_bytes, argument_bytes, star_bytes, function_bytes, class_bytes, classes_bytes, module_bytes, modules_bytes, encode}
use Rattle.model.specs.Read.{Out, read, bind, place, bit, rows, listed, Head, constant_head, name_head, attr_head, binop_head, tuple_head, list_head, subscript_head, texted, counted, tagged, head, parts, expr, attribute, argument, star, exprs, function, class_over, one_class, module_over, one_module, ended, versioned}
use Rattle.model.specs.Laws.{Bytes}
use Rattle.model.proofs.Continued.{Any, Good, Reads, Chain, step, last, at-start, at-end, number_reads, text_reads, fields_reads, star_fields_reads, rows_reads, listed_reads, optional_reads}

abbrev head_bytes : Head → List ℕ
head_bytes (constant_head c) = constant_bytes c
head_bytes (name_head s) = 7 ∷ text_bytes s
head_bytes attr_head = 8 ∷ []
head_bytes binop_head = 9 ∷ []
head_bytes (tuple_head k) = 10 ∷ number_bytes k
head_bytes (list_head k) = 11 ∷ number_bytes k
head_bytes subscript_head = 12 ∷ []

pick : {A : Type 0} (w : A → List ℕ) (n : ℕ) (bs : List ℕ) (b : Bool) (x y : Out A) → (b ≡ true → Good w Any n bs x) → (b ≡ false → Good w Any n bs y) → Good w Any n bs (cond b x y)
pick w n bs true x y g h = g refl
pick w n bs false x y g h = h refl

-- the flags of a map
flag : (x : ℕ) → cond (eqb (x % 2) 1) 1 0 ≡ x % 2
flag x = go (eqb (x % 2) 1) refl
  where
    go : (b : Bool) → eqb (x % 2) 1 ≡ b → cond b 1 0 ≡ x % 2
    go true e = omega (arith, eqb-true (x % 2) 1 e)
    go false e = omega (arith, eqb-false (x % 2) 1 e)

more-bits : (x : Bool) (xs : List Bool) (q h : ℕ) → x ≡ eqb (q % 2) 1 → bits xs ≡ h → h ≡ q / 2 → bits (x ∷ xs) ≡ q
more-bits x xs q h e f g = rw (e, f, flag q) (omega arith)

bits2 : (m : ℕ) → m < 4 → (x0 x1 : Bool) → x0 ≡ bit m 1 → x1 ≡ bit m 2 → bits (x0 ∷ x1 ∷ []) ≡ m
bits2 m l x0 x1 e0 e1 =
    more-bits x0 (x1 ∷ []) (m / 1) (m / 2) e0 (more-bits x1 [] (m / 2) 0 e1 refl (omega arith)) (omega arith) ∙ omega arith

bits4 : (m : ℕ) → m < 16 → (x0 x1 x2 x3 : Bool) → x0 ≡ bit m 1 → x1 ≡ bit m 2 → x2 ≡ bit m 4 → x3 ≡ bit m 8 → bits (x0 ∷ x1 ∷ x2 ∷ x3 ∷ []) ≡ m
bits4 m l x0 x1 x2 x3 e0 e1 e2 e3 =
    more-bits x0 (x1 ∷ x2 ∷ x3 ∷ []) (m / 1) (m / 2) e0 (more-bits x1 (x2 ∷ x3 ∷ []) (m / 2) (m / 4) e1 (more-bits x2 (x3 ∷ []) (m / 4) (m / 8) e2 (more-bits x3 [] (m / 8) 0 e3 refl (omega arith)) (omega arith)) (omega arith)) (omega arith) ∙ omega arith

bits5 : (m : ℕ) → m < 32 → (x0 x1 x2 x3 x4 : Bool) → x0 ≡ bit m 1 → x1 ≡ bit m 2 → x2 ≡ bit m 4 → x3 ≡ bit m 8 → x4 ≡ bit m 16 → bits (x0 ∷ x1 ∷ x2 ∷ x3 ∷ x4 ∷ []) ≡ m
bits5 m l x0 x1 x2 x3 x4 e0 e1 e2 e3 e4 =
    more-bits x0 (x1 ∷ x2 ∷ x3 ∷ x4 ∷ []) (m / 1) (m / 2) e0 (more-bits x1 (x2 ∷ x3 ∷ x4 ∷ []) (m / 2) (m / 4) e1 (more-bits x2 (x3 ∷ x4 ∷ []) (m / 4) (m / 8) e2 (more-bits x3 (x4 ∷ []) (m / 8) (m / 16) e3 (more-bits x4 [] (m / 16) 0 e4 refl (omega arith)) (omega arith)) (omega arith)) (omega arith)) (omega arith) ∙ omega arith

bits7 : (m : ℕ) → m < 128 → (x0 x1 x2 x3 x4 x5 x6 : Bool) → x0 ≡ bit m 1 → x1 ≡ bit m 2 → x2 ≡ bit m 4 → x3 ≡ bit m 8 → x4 ≡ bit m 16 → x5 ≡ bit m 32 → x6 ≡ bit m 64 → bits (x0 ∷ x1 ∷ x2 ∷ x3 ∷ x4 ∷ x5 ∷ x6 ∷ []) ≡ m
bits7 m l x0 x1 x2 x3 x4 x5 x6 e0 e1 e2 e3 e4 e5 e6 =
    more-bits x0 (x1 ∷ x2 ∷ x3 ∷ x4 ∷ x5 ∷ x6 ∷ []) (m / 1) (m / 2) e0 (more-bits x1 (x2 ∷ x3 ∷ x4 ∷ x5 ∷ x6 ∷ []) (m / 2) (m / 4) e1 (more-bits x2 (x3 ∷ x4 ∷ x5 ∷ x6 ∷ []) (m / 4) (m / 8) e2 (more-bits x3 (x4 ∷ x5 ∷ x6 ∷ []) (m / 8) (m / 16) e3 (more-bits x4 (x5 ∷ x6 ∷ []) (m / 16) (m / 32) e4 (more-bits x5 (x6 ∷ []) (m / 32) (m / 64) e5 (more-bits x6 [] (m / 64) 0 e6 refl (omega arith)) (omega arith)) (omega arith)) (omega arith)) (omega arith)) (omega arith)) (omega arith) ∙ omega arith

glue2 : (h x0 x1 : List ℕ) → (h ++ x0) ++ x1 ≡ h ++ (x0 ++ (x1))
glue2 h x0 x1 = simp append_assoc

glue4 : (h x0 x1 x2 x3 : List ℕ) → (((h ++ x0) ++ x1) ++ x2) ++ x3 ≡ h ++ (x0 ++ (x1 ++ (x2 ++ (x3))))
glue4 h x0 x1 x2 x3 = simp append_assoc

glue5 : (h x0 x1 x2 x3 x4 : List ℕ) → ((((h ++ x0) ++ x1) ++ x2) ++ x3) ++ x4 ≡ h ++ (x0 ++ (x1 ++ (x2 ++ (x3 ++ (x4)))))
glue5 h x0 x1 x2 x3 x4 = simp append_assoc

glue7 : (h x0 x1 x2 x3 x4 x5 x6 : List ℕ) → ((((((h ++ x0) ++ x1) ++ x2) ++ x3) ++ x4) ++ x5) ++ x6 ≡ h ++ (x0 ++ (x1 ++ (x2 ++ (x3 ++ (x4 ++ (x5 ++ (x6)))))))
glue7 h x0 x1 x2 x3 x4 x5 x6 = simp append_assoc

abbrev classes_field : Classes → List ℕ
classes_field cs = field (classes_count cs) (classes_bytes cs)

abbrev modules_field : Modules → List ℕ
modules_field ms = field (modules_count ms) (modules_bytes ms)

attribute-is : (p m : ℕ) → m < 4 → (s : Text) (v : Option Expr) (a : Option Expr) → is_some v ≡ bit m 1 → is_some a ≡ bit m 2 → ((number_bytes m ++ text_bytes s) ++ any expr_bytes v) ++ any expr_bytes a ≡ attribute_bytes (record { place = p; name = s; value = v; annotation = a })
attribute-is p m l s v a hv ha =
    glue2 (number_bytes m ++ text_bytes s) (any expr_bytes v) (any expr_bytes a)
    ∙ ap (λ k. (number_bytes k ++ text_bytes s) ++ (any expr_bytes v ++ (any expr_bytes a))) (sym (bits2 m l (is_some v) (is_some a) hv ha))

argument_is : (p m : ℕ) → m < 4 → (s : Text) (v : Option Expr) (a : Option Expr) → is_some v ≡ bit m 1 → is_some a ≡ bit m 2 → ((number_bytes m ++ text_bytes s) ++ any expr_bytes v) ++ any expr_bytes a ≡ argument_bytes (record { place = p; name = s; default = v; annotation = a })
argument_is p m l s v a hv ha =
    glue2 (number_bytes m ++ text_bytes s) (any expr_bytes v) (any expr_bytes a)
    ∙ ap (λ k. (number_bytes k ++ text_bytes s) ++ (any expr_bytes v ++ (any expr_bytes a))) (sym (bits2 m l (is_some v) (is_some a) hv ha))

star-is : (p m : ℕ) → (m < 4) × (bit m 1 ≡ false) → (s : Text) (a : Option Expr) → is_some a ≡ bit m 2 → (number_bytes m ++ text_bytes s) ++ any expr_bytes a ≡ star_bytes (record { place = p; name = s; annotation = a })
star-is p m l s a ha =
    refl
    ∙ ap (λ k. (number_bytes k ++ text_bytes s) ++ (any expr_bytes a)) (sym (bits2 m l.0 false (is_some a) (sym l.1) ha))

function-is : (p m : ℕ) → m < 128 → (s : Text) (ds : Exprs) (ps : List Argument) (rs : List Argument) (va : Option Star) (ks : List Argument) (kw : Option Star) (re : Option Expr) → stands (exprs_count ds) ≡ bit m 1 → stands (length ps) ≡ bit m 2 → stands (length rs) ≡ bit m 4 → is_some va ≡ bit m 8 → stands (length ks) ≡ bit m 16 → is_some kw ≡ bit m 32 → is_some re ≡ bit m 64 → (((((((number_bytes m ++ text_bytes s) ++ exprs_field ds) ++ list_field argument_bytes ps) ++ list_field argument_bytes rs) ++ any star_bytes va) ++ list_field argument_bytes ks) ++ any star_bytes kw) ++ any expr_bytes re ≡ function_bytes (record { place = p; name = s; decorators = ds; positional = ps; regular = rs; vararg = va; keyword = ks; kwarg = kw; returns = re })
function-is p m l s ds ps rs va ks kw re hds hps hrs hva hks hkw hre =
    glue7 (number_bytes m ++ text_bytes s) (exprs_field ds) (list_field argument_bytes ps) (list_field argument_bytes rs) (any star_bytes va) (list_field argument_bytes ks) (any star_bytes kw) (any expr_bytes re)
    ∙ ap (λ k. (number_bytes k ++ text_bytes s) ++ (exprs_field ds ++ (list_field argument_bytes ps ++ (list_field argument_bytes rs ++ (any star_bytes va ++ (list_field argument_bytes ks ++ (any star_bytes kw ++ (any expr_bytes re)))))))) (sym (bits7 m l (stands (exprs_count ds)) (stands (length ps)) (stands (length rs)) (is_some va) (stands (length ks)) (is_some kw) (is_some re) hds hps hrs hva hks hkw hre))

class_over-is : (p m : ℕ) → m < 32 → (s : Text) (bases : Exprs) (ms : List Function) (ats : List Attribute) (ds : Exprs) (inner : Classes) → stands (exprs_count bases) ≡ bit m 1 → stands (length ms) ≡ bit m 2 → stands (length ats) ≡ bit m 4 → stands (exprs_count ds) ≡ bit m 8 → stands (classes_count inner) ≡ bit m 16 → (((((number_bytes m ++ text_bytes s) ++ exprs_field bases) ++ list_field function_bytes ms) ++ list_field attribute_bytes ats) ++ exprs_field ds) ++ classes_field inner ≡ class_bytes (pyclass p s bases ms ats ds inner)
class_over-is p m l s bases ms ats ds inner hbases hms hats hds hinner =
    glue5 (number_bytes m ++ text_bytes s) (exprs_field bases) (list_field function_bytes ms) (list_field attribute_bytes ats) (exprs_field ds) (classes_field inner)
    ∙ ap (λ k. (number_bytes k ++ text_bytes s) ++ (exprs_field bases ++ (list_field function_bytes ms ++ (list_field attribute_bytes ats ++ (exprs_field ds ++ (classes_field inner)))))) (sym (bits5 m l (stands (exprs_count bases)) (stands (length ms)) (stands (length ats)) (stands (exprs_count ds)) (stands (classes_count inner)) hbases hms hats hds hinner))

module_over-is : (p q m : ℕ) → m < 16 → (s : Text) (ms : Modules) (cs : Classes) (fs : List Function) (ats : List Attribute) → stands (modules_count ms) ≡ bit m 1 → stands (classes_count cs) ≡ bit m 2 → stands (length fs) ≡ bit m 4 → stands (length ats) ≡ bit m 8 → ((((number_bytes m ++ text_bytes s) ++ modules_field ms) ++ classes_field cs) ++ list_field function_bytes fs) ++ list_field attribute_bytes ats ≡ module_bytes (pymodule p s ms q cs fs ats)
module_over-is p q m l s ms cs fs ats hms hcs hfs hats =
    glue4 (number_bytes m ++ text_bytes s) (modules_field ms) (classes_field cs) (list_field function_bytes fs) (list_field attribute_bytes ats)
    ∙ ap (λ k. (number_bytes k ++ text_bytes s) ++ (modules_field ms ++ (classes_field cs ++ (list_field function_bytes fs ++ (list_field attribute_bytes ats))))) (sym (bits4 m l (stands (modules_count ms)) (stands (classes_count cs)) (stands (length fs)) (stands (length ats)) hms hcs hfs hats))

module _ (n : ℕ) where
  plain : (tag : ℕ) (bs : List ℕ) (i : ℕ) (h : Head) → head_bytes h ≡ i ∷ [] → eqb tag i ≡ true → Good head_bytes Any n (tag ∷ bs) (read h bs)
  plain tag bs i h w e = (ap (λ t. t ∷ bs) (eqb-true tag i e) ∙ ap (λ x. x ++ bs) (sym w), tt)

  with_text : (tag : ℕ) (bs : List ℕ) → Bytes bs → (i : ℕ) (make : Text → Head) → ((s : Text) → head_bytes (make s) ≡ i ∷ text_bytes s) → eqb tag i ≡ true → Good head_bytes Any n (tag ∷ bs) (texted n make bs)
  with_text tag bs b i make w e =
      subst (λ t. Good head_bytes Any n (t ∷ bs) (texted n make bs)) (sym (eqb-true tag i e)) (step {W = head_bytes} {D = Any} {done = i ∷ []} b (text_reads n) (λ s r b' c. last (make s) tt (sym (w s)))).good

  with_count : (tag : ℕ) (bs : List ℕ) → Bytes bs → (i : ℕ) (make : ℕ → Head) → ((k : ℕ) → head_bytes (make k) ≡ i ∷ number_bytes k) → eqb tag i ≡ true → Good head_bytes Any n (tag ∷ bs) (counted n make bs)
  with_count tag bs b i make w e =
      subst (λ t. Good head_bytes Any n (t ∷ bs) (counted n make bs)) (sym (eqb-true tag i e)) (step {W = head_bytes} {D = Any} {done = i ∷ []} b (number_reads n) (λ s r b' c. last (make s) tt (sym (w s)))).good

  tagged_good : (tag : ℕ) (bs : List ℕ) → Bytes bs → Good head_bytes Any n (tag ∷ bs) (tagged n (place n (tag ∷ bs)) tag bs)
  tagged_good tag bs b =
      pick head_bytes n (tag ∷ bs) (eqb tag 0) _ _ (plain tag bs 0 (constant_head py_none) refl) λ _.
      pick head_bytes n (tag ∷ bs) (eqb tag 1) _ _ (plain tag bs 1 (constant_head py_false) refl) λ _.
      pick head_bytes n (tag ∷ bs) (eqb tag 2) _ _ (plain tag bs 2 (constant_head py_true) refl) λ _.
      pick head_bytes n (tag ∷ bs) (eqb tag 3) _ _ (with_text tag bs b 3 (λ s. constant_head (int s)) λ s. refl) λ _.
      pick head_bytes n (tag ∷ bs) (eqb tag 4) _ _ (with_text tag bs b 4 (λ s. constant_head (float s)) λ s. refl) λ _.
      pick head_bytes n (tag ∷ bs) (eqb tag 5) _ _ (with_text tag bs b 5 (λ s. constant_head (str s)) λ s. refl) λ _.
      pick head_bytes n (tag ∷ bs) (eqb tag 6) _ _ (plain tag bs 6 (constant_head ellipsis) refl) λ _.
      pick head_bytes n (tag ∷ bs) (eqb tag 7) _ _ (with_text tag bs b 7 name_head λ s. refl) λ _.
      pick head_bytes n (tag ∷ bs) (eqb tag 8) _ _ (plain tag bs 8 attr_head refl) λ _.
      pick head_bytes n (tag ∷ bs) (eqb tag 9) _ _ (plain tag bs 9 binop_head refl) λ _.
      pick head_bytes n (tag ∷ bs) (eqb tag 10) _ _ (with_count tag bs b 10 tuple_head λ k. refl) λ _.
      pick head_bytes n (tag ∷ bs) (eqb tag 11) _ _ (with_count tag bs b 11 list_head λ k. refl) λ _.
      pick head_bytes n (tag ∷ bs) (eqb tag 12) _ _ (plain tag bs 12 subscript_head refl) λ _.
      at-start head_bytes Any n (tag ∷ bs) (constant_head py_none) tt

  head_reads : Reads head_bytes Any n (head n)
  head_reads = record { default = constant_head py_none; fine = tt; at = go }
    where
      go : (bs : List ℕ) → Bytes bs → Good head_bytes Any n bs (head n bs)
      go [] b = at-end head_bytes Any n [] (0 ∷ []) (constant_head py_none) tt refl
      go (tag ∷ bs) b = tagged_good tag bs b.1

  exprs-rows : (one : List ℕ → Out Expr) → Reads expr_bytes Any n one → (k : ℕ) → Reads exprs_bytes (λ es. exprs_count es ≡ k) n (rows end item one k)
  exprs-rows one g k = rows_reads n expr_bytes exprs_bytes exprs_count end item one g refl refl (λ a l. refl) (λ a l. refl) k

  parts_good : (one : List ℕ → Out Expr) → Reads expr_bytes Any n one → (p : ℕ) (h : Head) (bs : List ℕ) → Bytes bs → Chain expr_bytes Any n (head_bytes h) bs (parts n one p h bs)
  parts_good one g p (constant_head c) bs b = last (constant p c) tt refl
  parts_good one g p (name_head s) bs b = last (name p s) tt refl
  parts_good one g p attr_head bs b = step b g λ e r b' c. step b' (text_reads n) λ s t b'' c'. last (attr p e s) tt refl
  parts_good one g p binop_head bs b = step b g λ e r b' c. step b' g λ f t b'' c'. last (binop p e f) tt refl
  parts_good one g p (tuple_head k) bs b = step b (exprs-rows one g k) λ es r b' c. last (tuple p es) tt (rw c refl)
  parts_good one g p (list_head k) bs b = step b (exprs-rows one g k) λ es r b' c. last (list p es) tt (rw c refl)
  parts_good one g p subscript_head bs b = step b g λ e r b' c. step b' g λ f t b'' c'. last (subscript p e f) tt refl

  pub expr_reads : (d : ℕ) → Reads expr_bytes Any n (expr n d)
  unfolding expr
  expr_reads zero = record { default = constant 0 py_none; fine = tt; at = λ bs b. at-start expr_bytes Any n bs (constant 0 py_none) tt }
  expr_reads (suc d) =
      record { default = constant 0 py_none; fine = tt; at = λ bs b. (step {W = expr_bytes} {D = Any} {done = []} b head_reads (λ h r b' c. parts_good (expr n d) (expr_reads d) (place n bs) h r b')).good }

  exprs_reads : (d : ℕ) (b : Bool) → Reads exprs_field (λ es. stands (exprs_count es) ≡ b) n (exprs n d b)
  exprs_reads d b = listed_reads n expr_bytes exprs_bytes exprs_count end item (expr n d) (expr_reads d) refl refl (λ a l. refl) (λ a l. refl) b

  list_reads : {A : Type 0} (w : A → List ℕ) (one : List ℕ → Out A) → Reads w Any n one → (b : Bool) → Reads (list_field w) (λ xs. stands (length xs) ≡ b) n (listed n [] ◌∷◌ one b)
  list_reads w one g b = listed_reads n w (each w) length [] ◌∷◌ one g refl refl (λ a l. refl) (λ a l. refl) b

  attribute_reads : (d : ℕ) → Reads attribute_bytes Any n (attribute n d)
  attribute_reads d =
      record {
        default = record { place = 0; name = []; value = None; annotation = None };
        fine = tt;
        at = λ bs b.
            (step {W = attribute_bytes} {D = Any} {done = []} b (fields_reads n 4 (omega arith)) (λ m r0 b0 l.
            step b0 (text_reads n) λ s r1 b1 c1.
            step b1 (optional_reads n expr_bytes (expr n d) (expr_reads d) (bit m 1)) λ v r2 b2 hv.
            step b2 (optional_reads n expr_bytes (expr n d) (expr_reads d) (bit m 2)) λ a r3 b3 ha.
            last _ tt (attribute-is (place n bs) m l s v a hv ha))).good;
      }

  argument_reads : (d : ℕ) → Reads argument_bytes Any n (argument n d)
  argument_reads d =
      record {
        default = record { place = 0; name = []; default = None; annotation = None };
        fine = tt;
        at = λ bs b.
            (step {W = argument_bytes} {D = Any} {done = []} b (fields_reads n 4 (omega arith)) (λ m r0 b0 l.
            step b0 (text_reads n) λ s r1 b1 c1.
            step b1 (optional_reads n expr_bytes (expr n d) (expr_reads d) (bit m 1)) λ v r2 b2 hv.
            step b2 (optional_reads n expr_bytes (expr n d) (expr_reads d) (bit m 2)) λ a r3 b3 ha.
            last _ tt (argument_is (place n bs) m l s v a hv ha))).good;
      }

  star_reads : (d : ℕ) → Reads star_bytes Any n (star n d)
  star_reads d =
      record {
        default = record { place = 0; name = []; annotation = None };
        fine = tt;
        at = λ bs b.
            (step {W = star_bytes} {D = Any} {done = []} b (star_fields_reads n) (λ m r0 b0 l.
            step b0 (text_reads n) λ s r1 b1 c1.
            step b1 (optional_reads n expr_bytes (expr n d) (expr_reads d) (bit m 2)) λ a r2 b2 ha.
            last _ tt (star-is (place n bs) m l s a ha))).good;
      }

  function_reads : (d : ℕ) → Reads function_bytes Any n (function n d)
  function_reads d =
      record {
        default = record { place = 0; name = []; decorators = end; positional = []; regular = []; vararg = None; keyword = []; kwarg = None; returns = None };
        fine = tt;
        at = λ bs b.
            (step {W = function_bytes} {D = Any} {done = []} b (fields_reads n 128 (omega arith)) (λ m r0 b0 l.
            step b0 (text_reads n) λ s r1 b1 c1.
            step b1 (exprs_reads d (bit m 1)) λ ds r2 b2 hds.
            step b2 (list_reads argument_bytes (argument n d) (argument_reads d) (bit m 2)) λ ps r3 b3 hps.
            step b3 (list_reads argument_bytes (argument n d) (argument_reads d) (bit m 4)) λ rs r4 b4 hrs.
            step b4 (optional_reads n star_bytes (star n d) (star_reads d) (bit m 8)) λ va r5 b5 hva.
            step b5 (list_reads argument_bytes (argument n d) (argument_reads d) (bit m 16)) λ ks r6 b6 hks.
            step b6 (optional_reads n star_bytes (star n d) (star_reads d) (bit m 32)) λ kw r7 b7 hkw.
            step b7 (optional_reads n expr_bytes (expr n d) (expr_reads d) (bit m 64)) λ re r8 b8 hre.
            last _ tt (function-is (place n bs) m l s ds ps rs va ks kw re hds hps hrs hva hks hkw hre))).good;
      }

  classes-listed : (one : List ℕ → Out Class) → Reads class_bytes Any n one → (b : Bool) → Reads classes_field (λ cs. stands (classes_count cs) ≡ b) n (listed n no_class add_class one b)
  classes-listed one g b = listed_reads n class_bytes classes_bytes classes_count no_class add_class one g refl refl (λ a l. refl) (λ a l. refl) b

  modules-listed : (one : List ℕ → Out Module) → Reads module_bytes Any n one → (b : Bool) → Reads modules_field (λ ms. stands (modules_count ms) ≡ b) n (listed n no_module add_module one b)
  modules-listed one g b = listed_reads n module_bytes modules_bytes modules_count no_module add_module one g refl refl (λ a l. refl) (λ a l. refl) b

  class_over_reads : (d : ℕ) (one : List ℕ → Out Class) → Reads class_bytes Any n one → Reads class_bytes Any n (class_over n d one)
  class_over_reads d one g =
      record {
        default = pyclass 0 [] end [] [] end no_class;
        fine = tt;
        at = λ bs b.
            (step {W = class_bytes} {D = Any} {done = []} b (fields_reads n 32 (omega arith)) (λ m r0 b0 l.
            step b0 (text_reads n) λ s r1 b1 c1.
            step b1 (exprs_reads d (bit m 1)) λ bases r2 b2 hbases.
            step b2 (list_reads function_bytes (function n d) (function_reads d) (bit m 2)) λ ms r3 b3 hms.
            step b3 (list_reads attribute_bytes (attribute n d) (attribute_reads d) (bit m 4)) λ ats r4 b4 hats.
            step b4 (exprs_reads d (bit m 8)) λ ds r5 b5 hds.
            step b5 (classes-listed one g (bit m 16)) λ inner r6 b6 hinner.
            last _ tt (class_over-is (place n bs) m l s bases ms ats ds inner hbases hms hats hds hinner))).good;
      }

  pub one_class_reads : (d : ℕ) → Reads class_bytes Any n (one_class n d)
  unfolding one_class
  one_class_reads zero = record { default = pyclass 0 [] end [] [] end no_class; fine = tt; at = λ bs b. at-start class_bytes Any n bs (pyclass 0 [] end [] [] end no_class) tt }
  one_class_reads (suc d) = class_over_reads d (one_class n d) (one_class_reads d)

  module_over_reads : (d : ℕ) (one : List ℕ → Out Module) → Reads module_bytes Any n one → Reads module_bytes Any n (module_over n d one)
  module_over_reads d one g =
      record {
        default = pymodule 0 [] no_module 0 no_class [] [];
        fine = tt;
        at = λ bs b.
            (step {W = module_bytes} {D = Any} {done = []} b (fields_reads n 16 (omega arith)) (λ m r0 b0 l.
            step b0 (text_reads n) λ s r1 b1 c1.
            step b1 (modules-listed one g (bit m 1)) λ ms r2 b2 hms.
            step b2 (classes-listed (one_class n d) (one_class_reads d) (bit m 2)) λ cs r3 b3 hcs.
            step b3 (list_reads function_bytes (function n d) (function_reads d) (bit m 4)) λ fs r4 b4 hfs.
            step b4 (list_reads attribute_bytes (attribute n d) (attribute_reads d) (bit m 8)) λ ats r5 b5 hats.
            last _ tt (module_over-is (place n bs) (place n r2) m l s ms cs fs ats hms hcs hfs hats))).good;
      }

  pub one_module_reads : (d : ℕ) → Reads module_bytes Any n (one_module n d)
  unfolding one_module
  one_module_reads zero = record { default = pymodule 0 [] no_module 0 no_class [] []; fine = tt; at = λ bs b. at-start module_bytes Any n bs (pymodule 0 [] no_module 0 no_class [] []) tt }
  one_module_reads (suc d) = module_over_reads d (one_module n d) (one_module_reads d)

  ended_good : (m : Module) (r : List ℕ) → Good encode Any n (encode m ++ r) (ended n m r)
  ended_good m [] = (refl, tt)
  ended_good m (b ∷ r) = record { pre = encode m; rest = b ∷ r; split = refl; near = inl refl; value = m; holds = tt; more = []; is = append-nil (encode m) }

  pub versioned_good : (bs : List ℕ) → Bytes bs → Good encode Any n bs (versioned n bs)
  versioned_good [] b = at-end encode Any n [] (encode (pymodule 0 [] no_module 0 no_class [] [])) (pymodule 0 [] no_module 0 no_class [] []) tt refl
  versioned_good (v ∷ bs) b =
      pick encode n (v ∷ bs) (eqb v 1) _ _
      (λ e. subst (λ t. Good encode Any n (t ∷ bs) (bind (one_module n 64 bs) (ended n))) (sym (eqb-true v 1 e)) (step {W = encode} {D = Any} {done = 1 ∷ []} b.1 (one_module_reads 64) (λ m r b' c. record { ends = record { value = m; holds = tt; more = []; is = append-nil (encode m) }; good = ended_good m r })).good)
      (λ e. at-start encode Any n (v ∷ bs) (pymodule 0 [] no_module 0 no_class [] []) tt)
