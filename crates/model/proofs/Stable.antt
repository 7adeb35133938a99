-- Reading does not change when bytes are put behind: what was read stays read, and a fault inside the bytes stays.
use Rattle.std.proofs.Common.{◌≡◌, ℕ, zero, suc, ◌+◌, ◌<◌, ◌≤◌, Bool, true, false, cond, eqb, ltb, leb, List, [], ◌∷◌, ◌++◌, length, take, drop, sym, refl, ap, ◌∙◌, subst, arith, length-append}
use Rattle.std.proofs.lemmas.List.{take-append-le, drop-append-le}
use Rattle.std.proofs.lemmas.Bool.{le-leb, leb-true}
use Rattle.model.specs.Tree.{Text, Expr, Class, Module, int, float, str, end, item, no_class, add_class, no_module, add_module}
use Rattle.model.specs.Read.{Out, read, fault, bind, place, number, text, fields, bit, count, rows, listed, optional, Head, constant_head, name_head, attr_head, binop_head, tuple_head, list_head, subscript_head, texted, counted, tagged, head, parts, expr, attribute, argument, star_fields, star, function, class_over, one_class, module_over, one_module, ended, versioned, model}

abbrev pub Same : {A : Type 0} → ℕ → List ℕ → Out A → Out A → Type 0
Same n more (read a r) o = o ≡ read a (r ++ more)
Same n more (fault p) o = p < n → o ≡ fault p

module _ (n : ℕ) (more : List ℕ) where
  place_same : (bs : List ℕ) → place (n + length more) (bs ++ more) ≡ place n bs
  place_same bs = rw length-append (omega arith)

  bind-same : {A B : Type 0} (o o' : Out A) (f f' : A → List ℕ → Out B) → Same n more o o' → ((a : A) (r : List ℕ) → Same n more (f a r) (f' a (r ++ more))) → Same n more (bind o f) (bind o' f')
  bind-same (read a r) o' f f' e h = rw e (h a r)
  bind-same (fault p) o' f f' e h = λ l. rw (e l) refl

  cond_same : {A : Type 0} (b : Bool) (x x' y y' : Out A) → Same n more x x' → Same n more y y' → Same n more (cond b x y) (cond b x' y')
  cond_same true x x' y y' h k = h
  cond_same false x x' y y' h k = k

  number_same : (bs : List ℕ) → Same n more (number n bs) (number (n + length more) (bs ++ more))
  number_same [] = λ l. absurd (omega arith)
  number_same (a ∷ []) = λ l. absurd (omega arith)
  number_same (a ∷ b ∷ bs) = refl

  text-step : (k : ℕ) (r : List ℕ) → Same n more (cond (leb k (length r)) (read (take k r) (drop k r)) (fault n)) (cond (leb k (length (r ++ more))) (read (take k (r ++ more)) (drop k (r ++ more))) (fault (n + length more)))
  text-step k r = go (leb k (length r)) refl
    where
      go : (b : Bool) → leb k (length r) ≡ b → Same n more (cond b (read (take k r) (drop k r)) (fault n)) (cond (leb k (length (r ++ more))) (read (take k (r ++ more)) (drop k (r ++ more))) (fault (n + length more)))
      go true e =
          let l : k ≤ length r = leb-true k (length r) e in
          let l' : k ≤ length (r ++ more) = rw length-append (omega arith) in
          rw (le-leb k (length (r ++ more)) l', take-append-le k r more l, drop-append-le k r more l) refl
      go false e = λ l. absurd (omega arith)

  text_same : (bs : List ℕ) → Same n more (text n bs) (text (n + length more) (bs ++ more))
  text_same bs = bind-same (number n bs) (number (n + length more) (bs ++ more)) _ _ (number_same bs) λ k r. text-step k r

  fields-same : (limit : ℕ) (bs : List ℕ) → Same n more (fields n limit bs) (fields (n + length more) limit (bs ++ more))
  fields-same limit bs =
      bind-same (number n bs) (number (n + length more) (bs ++ more)) _ _ (number_same bs) λ m r. cond_same (ltb m limit) _ _ _ _ refl λ l. ap fault (place_same bs)

  count_same : (bs : List ℕ) → Same n more (count n bs) (count (n + length more) (bs ++ more))
  count_same bs =
      bind-same (number n bs) (number (n + length more) (bs ++ more)) _ _ (number_same bs) λ k r. cond_same (eqb k 0) _ _ _ _ (λ l. ap fault (place_same bs)) refl

  star_fields-same : (bs : List ℕ) → Same n more (star_fields n bs) (star_fields (n + length more) (bs ++ more))
  star_fields-same bs =
      bind-same (fields n 4 bs) (fields (n + length more) 4 (bs ++ more)) _ _ (fields-same 4 bs) λ m r. cond_same (bit m 1) _ _ _ _ (λ l. ap fault (place_same bs)) refl

  rows_same : {A L : Type 0} (none : L) (add : A → L → L) (one one' : List ℕ → Out A) → ((bs : List ℕ) → Same n more (one bs) (one' (bs ++ more))) → (k : ℕ) (bs : List ℕ) → Same n more (rows none add one k bs) (rows none add one' k (bs ++ more))
  rows_same none add one one' h zero bs = refl
  rows_same none add one one' h (suc k) bs =
      bind-same (one bs) (one' (bs ++ more)) _ _ (h bs) λ a r. bind-same (rows none add one k r) (rows none add one' k (r ++ more)) _ _ (rows_same none add one one' h k r) λ l s. refl

  listed_same : {A L : Type 0} (none : L) (add : A → L → L) (one one' : List ℕ → Out A) → ((bs : List ℕ) → Same n more (one bs) (one' (bs ++ more))) → (b : Bool) (bs : List ℕ) → Same n more (listed n none add one b bs) (listed (n + length more) none add one' b (bs ++ more))
  listed_same none add one one' h true bs =
      bind-same (count n bs) (count (n + length more) (bs ++ more)) _ _ (count_same bs) λ k r. rows_same none add one one' h k r
  listed_same none add one one' h false bs = refl

  optional-same : {A : Type 0} (one one' : List ℕ → Out A) → ((bs : List ℕ) → Same n more (one bs) (one' (bs ++ more))) → (b : Bool) (bs : List ℕ) → Same n more (optional one b bs) (optional one' b (bs ++ more))
  optional-same one one' h true bs = bind-same (one bs) (one' (bs ++ more)) _ _ (h bs) λ a r. refl
  optional-same one one' h false bs = refl

  texted-same : (make : Text → Head) (bs : List ℕ) → Same n more (texted n make bs) (texted (n + length more) make (bs ++ more))
  texted-same make bs = bind-same (text n bs) (text (n + length more) (bs ++ more)) _ _ (text_same bs) λ s r. refl

  counted_same : (make : ℕ → Head) (bs : List ℕ) → Same n more (counted n make bs) (counted (n + length more) make (bs ++ more))
  counted_same make bs = bind-same (number n bs) (number (n + length more) (bs ++ more)) _ _ (number_same bs) λ s r. refl

  tagged-same : (p p' tag : ℕ) (bs : List ℕ) → p' ≡ p → Same n more (tagged n p tag bs) (tagged (n + length more) p' tag (bs ++ more))
  tagged-same p p' tag bs e =
      cond_same (eqb tag 0) _ _ _ _ refl
      (cond_same (eqb tag 1) _ _ _ _ refl
      (cond_same (eqb tag 2) _ _ _ _ refl
      (cond_same (eqb tag 3) _ _ _ _ (texted-same (λ s. constant_head (int s)) bs)
      (cond_same (eqb tag 4) _ _ _ _ (texted-same (λ s. constant_head (float s)) bs)
      (cond_same (eqb tag 5) _ _ _ _ (texted-same (λ s. constant_head (str s)) bs)
      (cond_same (eqb tag 6) _ _ _ _ refl
      (cond_same (eqb tag 7) _ _ _ _ (texted-same name_head bs)
      (cond_same (eqb tag 8) _ _ _ _ refl
      (cond_same (eqb tag 9) _ _ _ _ refl
      (cond_same (eqb tag 10) _ _ _ _ (counted_same tuple_head bs)
      (cond_same (eqb tag 11) _ _ _ _ (counted_same list_head bs)
      (cond_same (eqb tag 12) _ _ _ _ refl
      (λ l. ap fault e)))))))))))))

  head-same : (bs : List ℕ) → Same n more (head n bs) (head (n + length more) (bs ++ more))
  head-same [] = λ l. absurd (omega arith)
  head-same (tag ∷ bs) = tagged-same (place n (tag ∷ bs)) (place (n + length more) ((tag ∷ bs) ++ more)) tag bs (place_same (tag ∷ bs))

  parts_same : (one one' : List ℕ → Out Expr) → ((bs : List ℕ) → Same n more (one bs) (one' (bs ++ more))) → (p : ℕ) (h : Head) (bs : List ℕ) → Same n more (parts n one p h bs) (parts (n + length more) one' p h (bs ++ more))
  parts_same one one' o p (constant_head c) bs = refl
  parts_same one one' o p (name_head s) bs = refl
  parts_same one one' o p attr_head bs =
      bind-same (one bs) (one' (bs ++ more)) _ _ (o bs) λ e r. bind-same (text n r) (text (n + length more) (r ++ more)) _ _ (text_same r) λ s t. refl
  parts_same one one' o p binop_head bs =
      bind-same (one bs) (one' (bs ++ more)) _ _ (o bs) λ e r. bind-same (one r) (one' (r ++ more)) _ _ (o r) λ s t. refl
  parts_same one one' o p (tuple_head k) bs =
      bind-same (rows end item one k bs) (rows end item one' k (bs ++ more)) _ _ (rows_same end item one one' o k bs) λ es r. refl
  parts_same one one' o p (list_head k) bs =
      bind-same (rows end item one k bs) (rows end item one' k (bs ++ more)) _ _ (rows_same end item one one' o k bs) λ es r. refl
  parts_same one one' o p subscript_head bs =
      bind-same (one bs) (one' (bs ++ more)) _ _ (o bs) λ e r. bind-same (one r) (one' (r ++ more)) _ _ (o r) λ s t. refl

  expr-same : (d : ℕ) (bs : List ℕ) → Same n more (expr n d bs) (expr (n + length more) d (bs ++ more))
  unfolding expr
  expr-same zero bs = λ l. ap fault (place_same bs)
  expr-same (suc d) bs =
      bind-same (head n bs) (head (n + length more) (bs ++ more)) (λ h r. parts n (expr n d) (place n bs) h r) (λ h r. parts (n + length more) (expr (n + length more) d) (place (n + length more) (bs ++ more)) h r) (head-same bs) λ h r. subst (λ (q : ℕ). Same n more (parts n (expr n d) (place n bs) h r) (parts (n + length more) (expr (n + length more) d) q h (r ++ more))) (sym (place_same bs)) (parts_same (expr n d) (expr (n + length more) d) (expr-same d) (place n bs) h r)

  attribute-same : (d : ℕ) (bs : List ℕ) → Same n more (attribute n d bs) (attribute (n + length more) d (bs ++ more))
  attribute-same d bs =
      bind-same (fields n 4 bs) (fields (n + length more) 4 (bs ++ more)) _ _ (fields-same 4 bs) λ m r0.
      bind-same (text n r0) (text (n + length more) (r0 ++ more)) _ _ (text_same r0) λ s r1.
      bind-same _ _ _ _ (optional-same (expr n d) (expr (n + length more) d) (expr-same d) (bit m 1) r1) λ v r2.
      bind-same _ _ _ _ (optional-same (expr n d) (expr (n + length more) d) (expr-same d) (bit m 2) r2) λ a r3.
      rw (place_same bs) refl

  argument-same : (d : ℕ) (bs : List ℕ) → Same n more (argument n d bs) (argument (n + length more) d (bs ++ more))
  argument-same d bs =
      bind-same (fields n 4 bs) (fields (n + length more) 4 (bs ++ more)) _ _ (fields-same 4 bs) λ m r0.
      bind-same (text n r0) (text (n + length more) (r0 ++ more)) _ _ (text_same r0) λ s r1.
      bind-same _ _ _ _ (optional-same (expr n d) (expr (n + length more) d) (expr-same d) (bit m 1) r1) λ v r2.
      bind-same _ _ _ _ (optional-same (expr n d) (expr (n + length more) d) (expr-same d) (bit m 2) r2) λ a r3.
      rw (place_same bs) refl

  star-same : (d : ℕ) (bs : List ℕ) → Same n more (star n d bs) (star (n + length more) d (bs ++ more))
  star-same d bs =
      bind-same (star_fields n bs) (star_fields (n + length more) (bs ++ more)) _ _ (star_fields-same bs) λ m r0.
      bind-same (text n r0) (text (n + length more) (r0 ++ more)) _ _ (text_same r0) λ s r1.
      bind-same _ _ _ _ (optional-same (expr n d) (expr (n + length more) d) (expr-same d) (bit m 2) r1) λ a r2.
      rw (place_same bs) refl

  function-same : (d : ℕ) (bs : List ℕ) → Same n more (function n d bs) (function (n + length more) d (bs ++ more))
  function-same d bs =
      bind-same (fields n 128 bs) (fields (n + length more) 128 (bs ++ more)) _ _ (fields-same 128 bs) λ m r0.
      bind-same (text n r0) (text (n + length more) (r0 ++ more)) _ _ (text_same r0) λ s r1.
      bind-same _ _ _ _ (listed_same end item (expr n d) (expr (n + length more) d) (expr-same d) (bit m 1) r1) λ ds r2.
      bind-same _ _ _ _ (listed_same [] ◌∷◌ (argument n d) (argument (n + length more) d) (argument-same d) (bit m 2) r2) λ ps r3.
      bind-same _ _ _ _ (listed_same [] ◌∷◌ (argument n d) (argument (n + length more) d) (argument-same d) (bit m 4) r3) λ rs r4.
      bind-same _ _ _ _ (optional-same (star n d) (star (n + length more) d) (star-same d) (bit m 8) r4) λ va r5.
      bind-same _ _ _ _ (listed_same [] ◌∷◌ (argument n d) (argument (n + length more) d) (argument-same d) (bit m 16) r5) λ ks r6.
      bind-same _ _ _ _ (optional-same (star n d) (star (n + length more) d) (star-same d) (bit m 32) r6) λ kw r7.
      bind-same _ _ _ _ (optional-same (expr n d) (expr (n + length more) d) (expr-same d) (bit m 64) r7) λ re r8.
      rw (place_same bs) refl

  class_over-same : (d : ℕ) (one one' : List ℕ → Out Class) → ((bs : List ℕ) → Same n more (one bs) (one' (bs ++ more))) → (bs : List ℕ) → Same n more (class_over n d one bs) (class_over (n + length more) d one' (bs ++ more))
  class_over-same d one one' o bs =
      bind-same (fields n 32 bs) (fields (n + length more) 32 (bs ++ more)) _ _ (fields-same 32 bs) λ m r0.
      bind-same (text n r0) (text (n + length more) (r0 ++ more)) _ _ (text_same r0) λ s r1.
      bind-same _ _ _ _ (listed_same end item (expr n d) (expr (n + length more) d) (expr-same d) (bit m 1) r1) λ bases r2.
      bind-same _ _ _ _ (listed_same [] ◌∷◌ (function n d) (function (n + length more) d) (function-same d) (bit m 2) r2) λ ms r3.
      bind-same _ _ _ _ (listed_same [] ◌∷◌ (attribute n d) (attribute (n + length more) d) (attribute-same d) (bit m 4) r3) λ ats r4.
      bind-same _ _ _ _ (listed_same end item (expr n d) (expr (n + length more) d) (expr-same d) (bit m 8) r4) λ ds r5.
      bind-same _ _ _ _ (listed_same no_class add_class one one' o (bit m 16) r5) λ inner r6.
      rw (place_same bs) refl

  one_class-same : (d : ℕ) (bs : List ℕ) → Same n more (one_class n d bs) (one_class (n + length more) d (bs ++ more))
  unfolding one_class
  one_class-same zero bs = λ l. ap fault (place_same bs)
  one_class-same (suc d) bs = class_over-same d (one_class n d) (one_class (n + length more) d) (one_class-same d) bs

  module_over-same : (d : ℕ) (one one' : List ℕ → Out Module) → ((bs : List ℕ) → Same n more (one bs) (one' (bs ++ more))) → (bs : List ℕ) → Same n more (module_over n d one bs) (module_over (n + length more) d one' (bs ++ more))
  module_over-same d one one' o bs =
      bind-same (fields n 16 bs) (fields (n + length more) 16 (bs ++ more)) _ _ (fields-same 16 bs) λ m r0.
      bind-same (text n r0) (text (n + length more) (r0 ++ more)) _ _ (text_same r0) λ s r1.
      bind-same _ _ _ _ (listed_same no_module add_module one one' o (bit m 1) r1) λ ms r2.
      bind-same _ _ _ _ (listed_same no_class add_class (one_class n d) (one_class (n + length more) d) (one_class-same d) (bit m 2) r2) λ cs r3.
      bind-same _ _ _ _ (listed_same [] ◌∷◌ (function n d) (function (n + length more) d) (function-same d) (bit m 4) r3) λ fs r4.
      bind-same _ _ _ _ (listed_same [] ◌∷◌ (attribute n d) (attribute (n + length more) d) (attribute-same d) (bit m 8) r4) λ ats r5.
      rw (place_same bs, place_same r2) refl

  one_module-same : (d : ℕ) (bs : List ℕ) → Same n more (one_module n d bs) (one_module (n + length more) d (bs ++ more))
  unfolding one_module
  one_module-same zero bs = λ l. ap fault (place_same bs)
  one_module-same (suc d) bs = module_over-same d (one_module n d) (one_module (n + length more) d) (one_module-same d) bs

abbrev pub Ends : {A : Type 0} → ℕ → Out A → Out A → Type 0
Ends n (read a r) o = Unit {0}
Ends n (fault p) o = p < n → o ≡ fault p

ended_ends : (n : ℕ) (more : List ℕ) (m : Module) (bs : List ℕ) → Ends n (ended n m bs) (ended (n + length more) m (bs ++ more))
ended_ends n more m [] = tt
ended_ends n more m (b ∷ bs) = λ l. ap fault (place_same n more (b ∷ bs))

bind_ends : {A B : Type 0} (n : ℕ) (more : List ℕ) (o o' : Out A) (f f' : A → List ℕ → Out B) → Same n more o o' → ((a : A) (r : List ℕ) → Ends n (f a r) (f' a (r ++ more))) → Ends n (bind o f) (bind o' f')
bind_ends n more (read a r) o' f f' e h = rw e (h a r)
bind_ends n more (fault p) o' f f' e h = λ l. rw (e l) refl

cond_ends : {A : Type 0} (n : ℕ) (b : Bool) (x x' y y' : Out A) → Ends n x x' → Ends n y y' → Ends n (cond b x y) (cond b x' y')
cond_ends n true x x' y y' h k = h
cond_ends n false x x' y y' h k = k

versioned_ends : (n : ℕ) (more bs : List ℕ) → Ends n (versioned n bs) (versioned (n + length more) (bs ++ more))
versioned_ends n more [] = λ l. absurd (omega arith)
versioned_ends n more (v ∷ bs) =
    cond_ends n (eqb v 1) _ _ _ _
    (bind_ends n more (one_module n 64 bs) (one_module (n + length more) 64 (bs ++ more)) _ _ (one_module-same n more 64 bs) λ m r. ended_ends n more m r)
    (λ l. ap fault (place_same n more (v ∷ bs)))

pub model_final : (bs : List ℕ) (p : ℕ) → model bs ≡ fault p → p < length bs → (more : List ℕ) → model (bs ++ more) ≡ fault p
model_final bs p e l more =
    let h : Ends (length bs) (fault p) (versioned (length bs + length more) (bs ++ more)) =
    subst (λ o. Ends (length bs) o (versioned (length bs + length more) (bs ++ more))) e (versioned_ends (length bs) more bs) in
    ap (λ k. versioned k (bs ++ more)) (length-append bs more) ∙ h l
