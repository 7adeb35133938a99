-- The one pass of the code and the reading of a tree agree: what the pass gathers is what the tree holds.
use Rattle.std.proofs.Common.{◌≡◌, ℕ, zero, suc, ◌<◌, Bool, true, false, cond, not, ◌||◌, eqb, ltb, List, [], ◌∷◌, ◌++◌, is_some, Some, None, Option, sym, refl, ap, ◌∙◌, subst, arith}
use Rattle.std.proofs.lemmas.Bool.{ltb-true}
use Rattle.text.specs.Names.{identifier}
use Rattle.model.specs.declared.findings.Findings.{Findings}
use Rattle.model.specs.Tree.{Expr, Exprs, end, item}
use Rattle.model.specs.Read.{Out, read, fault, bind, place, number, text, fields, star_fields, count, bit, rows, listed, optional, Head, head, constant_head, name_head, attr_head, binop_head, tuple_head, list_head, subscript_head, parts, expr, exprs, attribute, argument, arguments, star, function}
use Rattle.model.specs.Rules.{Item, expr_items, exprs_items, each_items, any_items, attribute_items, argument_items, star_items, function_items}
use Rattle.model.specs.Audit.{note_name, note_empty, note_head, laps, audit_list, audit_any, audit_parts, audit_expr, audit_name, audit_attribute, audit_argument, audit_star, audit_exprs, audit_arguments, audit_function, judge_item, judge_all, map_out}

pub judge_append : (xs ys : List Item) (f : Findings) → judge_all (xs ++ ys) f ≡ judge_all ys (judge_all xs f)
judge_append [] ys f = refl
judge_append (x ∷ xs) ys f = judge_append xs ys (judge_item x f)

-- a step that both take
pub share : {A B C : Type 0} (o : Out A) (F : A → List ℕ → Out B) (G : A → List ℕ → Out C) (j : B → C) → ((a : A) (r : List ℕ) → o ≡ read a r → G a r ≡ map_out j (F a r)) → bind o G ≡ map_out j (bind o F)
share (read a r) F G j k = k a r refl
share (fault p) F G j k = refl

-- a step at which one reads a part and the other gathers from it
pub chain : {A B C S : Type 0} (o : Out A) (q : Out S) (h : A → S) (F : A → List ℕ → Out B) (G : S → List ℕ → Out C) (j : B → C) → q ≡ map_out h o → ((a : A) (r : List ℕ) → o ≡ read a r → G (h a) r ≡ map_out j (F a r)) → bind q G ≡ map_out j (bind o F)
chain (read a r) q h F G j e k = ap (λ (x : Out _). bind x G) e ∙ k a r refl
chain (fault p) q h F G j e k = ap (λ (x : Out _). bind x G) e

-- the last part, whose outcome is the whole's
pub last : {A B S : Type 0} (o : Out A) (q : Out S) (h : A → S) (F : A → List ℕ → Out B) (j : B → S) → q ≡ map_out h o → ((a : A) (r : List ℕ) → o ≡ read a r → read (h a) r ≡ map_out j (F a r)) → q ≡ map_out j (bind o F)
last (read a r) q h F j e k = e ∙ k a r refl
last (fault p) q h F j e k = e

-- what a pass tells of what a reader reads
abbrev pub Tells : {A S : Type 0} → (A → S → S) → (List ℕ → Out A) → (List ℕ → S → Out S) → Type 0
Tells add one pass = (bs : List ℕ) (f : _) → pass bs f ≡ map_out (λ a. add a f) (one bs)

-- a list, by what each item adds
pub rows_told : {A L S : Type 0} (add : A → S → S) (add_all : L → S → S) (none : L) (more : A → L → L) (one : List ℕ → Out A) (pass : List ℕ → S → Out S) → ((f : S) → add_all none f ≡ f) → ((a : A) (l : L) (f : S) → add_all (more a l) f ≡ add_all l (add a f)) → Tells add one pass → (k : ℕ) (bs : List ℕ) (f : S) → laps pass k bs f ≡ map_out (λ l. add_all l f) (rows none more one k bs)
rows_told add add_all none more one pass z s t zero bs f = ap (λ (g : _). read g bs) (sym (z f))
rows_told add add_all none more one pass z s t (suc k) bs f =
    chain (one bs) (pass bs f) (λ a. add a f) _ _ _ (t bs f) λ a r e.
    last (rows none more one k r) (laps pass k r (add a f)) (λ l. add_all l (add a f)) _ _ (rows_told add add_all none more one pass z s t k r (add a f)) λ l u d.
    ap (λ (g : _). read g u) (sym (s a l f))

pub listed-told : {A L S : Type 0} (add : A → S → S) (add_all : L → S → S) (none : L) (more : A → L → L) (one : List ℕ → Out A) (pass : List ℕ → S → Out S) → ((f : S) → add_all none f ≡ f) → ((a : A) (l : L) (f : S) → add_all (more a l) f ≡ add_all l (add a f)) → Tells add one pass → (n : ℕ) (b : Bool) (bs : List ℕ) (f : S) → audit_list n pass b bs f ≡ map_out (λ l. add_all l f) (listed n none more one b bs)
listed-told add add_all none more one pass z s t n true bs f =
    share (count n bs) _ _ _ λ k r e. rows_told add add_all none more one pass z s t k r f
listed-told add add_all none more one pass z s t n false bs f = ap (λ (g : _). read g bs) (sym (z f))

pub any_told : {A : Type 0} (items : A → List Item) (one : List ℕ → Out A) (pass : List ℕ → Findings → Out Findings) → Tells (λ a f. judge_all (items a) f) one pass → (b : Bool) (bs : List ℕ) (f : Findings) → audit_any pass b bs f ≡ map_out (λ o. judge_all (any_items items o) f) (optional one b bs)
any_told items one pass t true bs f = last (one bs) (pass bs f) _ _ _ (t bs f) λ a r e. refl
any_told items one pass t false bs f = refl

exprs-step : (e : Expr) (es : Exprs) (f : Findings) → judge_all (exprs_items (item e es)) f ≡ judge_all (exprs_items es) (judge_all (expr_items e) f)
exprs-step e es f = judge_append (expr_items e) (exprs_items es) f

each_step : {A : Type 0} (items : A → List Item) (a : A) (l : List A) (f : Findings) → judge_all (each_items items (a ∷ l)) f ≡ judge_all (each_items items l) (judge_all (items a) f)
each_step items a l f = judge_append (items a) (each_items items l) f

parts-told : (n : ℕ) (one : List ℕ → Out Expr) (pass : List ℕ → Findings → Out Findings) → Tells (λ e f. judge_all (expr_items e) f) one pass → (p : ℕ) (h : Head) (bs : List ℕ) (f : Findings) → audit_parts n pass p h bs (note_head p h f) ≡ map_out (λ e. judge_all (expr_items e) f) (parts n one p h bs)
parts-told n one pass t p (constant_head c) bs f = refl
parts-told n one pass t p (name_head s) bs f = refl
parts-told n one pass t p attr_head bs f =
    chain (one bs) (pass bs f) _ _ _ _ (t bs f) λ e r x. share (text n r) _ _ _ λ s u y. ap (λ (g : Findings). read g u) (sym (judge_append (expr_items e) _ f))
parts-told n one pass t p binop_head bs f =
    chain (one bs) (pass bs f) _ _ _ _ (t bs f) λ e r x. last (one r) (pass r (judge_all (expr_items e) f)) _ _ _ (t r (judge_all (expr_items e) f)) λ g u y. ap (λ (g : Findings). read g u) (sym (judge_append (expr_items e) (expr_items g) f))
parts-told n one pass t p (tuple_head k) bs f =
    last (rows end item one k bs) _ _ _ _ (rows_told (λ e f. judge_all (expr_items e) f) (λ es f. judge_all (exprs_items es) f) end item one pass (λ f. refl) exprs-step t k bs f) λ es r x. refl
parts-told n one pass t p (list_head k) bs f =
    last (rows end item one k bs) _ _ _ _ (rows_told (λ e f. judge_all (expr_items e) f) (λ es f. judge_all (exprs_items es) f) end item one pass (λ f. refl) exprs-step t k bs f) λ es r x. refl
parts-told n one pass t p subscript_head bs f =
    chain (one bs) (pass bs f) _ _ _ _ (t bs f) λ e r x. last (one r) (pass r (judge_all (expr_items e) f)) _ _ _ (t r (judge_all (expr_items e) f)) λ g u y. ap (λ (g : Findings). read g u) (sym (judge_append (expr_items e) (expr_items g) f))

pub expr-told : (n d : ℕ) → Tells (λ e f. judge_all (expr_items e) f) (expr n d) (audit_expr n d)
unfolding expr audit_expr
expr-told n zero bs f = refl
expr-told n (suc d) bs f = share (head n bs) _ _ _ λ h r x. parts-told n (expr n d) (audit_expr n d) (expr-told n d) (place n bs) h r f

pub exprs-told : (n d : ℕ) (b : Bool) (bs : List ℕ) (f : Findings) → audit_exprs n d b bs f ≡ map_out (λ es. judge_all (exprs_items es) f) (exprs n d b bs)
exprs-told n d b bs f =
    listed-told (λ e f. judge_all (expr_items e) f) (λ es f. judge_all (exprs_items es) f) end item (expr n d) (audit_expr n d) (λ f. refl) exprs-step (expr-told n d) n b bs f

any_expr-told : (n d : ℕ) (b : Bool) (bs : List ℕ) (f : Findings) → audit_any (audit_expr n d) b bs f ≡ map_out (λ o. judge_all (any_items expr_items o) f) (optional (expr n d) b bs)
any_expr-told n d b bs f = any_told expr_items (expr n d) (audit_expr n d) (expr-told n d) b bs f

pub each-told : {A : Type 0} (items : A → List Item) (one : List ℕ → Out A) (pass : List ℕ → Findings → Out Findings) → Tells (λ a f. judge_all (items a) f) one pass → (n : ℕ) (b : Bool) (bs : List ℕ) (f : Findings) → audit_list n pass b bs f ≡ map_out (λ l. judge_all (each_items items l) f) (listed n [] ◌∷◌ one b bs)
each-told items one pass t n b bs f =
    listed-told (λ a f. judge_all (items a) f) (λ l f. judge_all (each_items items l) f) [] ◌∷◌ one pass (λ f. refl) (each_step items) t n b bs f

-- the name of a record, with what follows it
pub named : {B : Type 0} (n p : ℕ) (bs : List ℕ) (f : Findings) (F : List ℕ → List ℕ → Out B) (G : Findings → List ℕ → Out Findings) (j : B → Findings) → ((s : List ℕ) (r : List ℕ) → G (note_name p (identifier s) f) r ≡ map_out j (F s r)) → bind (audit_name n p bs f) G ≡ map_out j (bind (text n bs) F)
named n p bs f F G j k = chain (text n bs) (audit_name n p bs f) (λ s. note_name p (identifier s) f) F G j (sym (named-text (text n bs))) λ s r e. k s r
  where
    named-text : (o : Out (List ℕ)) → map_out (λ s. note_name p (identifier s) f) o ≡ bind o (λ s r. read (note_name p (identifier s) f) r)
    named-text (read s r) = refl
    named-text (fault q) = refl

-- a field that may stand is there if its bit stands
stood : {A : Type 0} (one : List ℕ → Out A) (b : Bool) (bs : List ℕ) (o : Option A) (r : List ℕ) → optional one b bs ≡ read o r → is_some o ≡ b
stood one true bs o r e = go (one bs) e
  where
    go : (x : Out _) → bind x (λ a s. read (Some a) s) ≡ read o r → is_some o ≡ true
    go (read a s) h = let y : Some a ≡ o = cc in rw (← y) refl
    go (fault p) h = let z : ◌≡◌ {A = ℕ} 0 1 = cc in absurd (omega arith)
stood one false bs o r e = let y : None ≡ o = cc in rw (← y) refl

below : (n limit : ℕ) (bs : List ℕ) (m : ℕ) (r : List ℕ) → fields n limit bs ≡ read m r → m < limit
below n limit bs m r e = go (number n bs) e
  where
    pick : (k : ℕ) (s : List ℕ) (b : Bool) → ltb k limit ≡ b → cond b (read k s) (fault (place n bs)) ≡ read m r → m < limit
    pick k s true t h = let y : k ≡ m = cc in subst (λ (x : ℕ). x < limit) y (ltb-true k limit t)
    pick k s false t h = let z : ◌≡◌ {A = ℕ} 0 1 = cc in absurd (omega arith)

    go : (x : Out ℕ) → bind x (λ m r. cond (ltb m limit) (read m r) (fault (place n bs))) ≡ read m r → m < limit
    go (read k s) h = pick k s (ltb k limit) refl h
    go (fault p) h = let z : ◌≡◌ {A = ℕ} 0 1 = cc in absurd (omega arith)

two_bits : (m : ℕ) → m < 4 → bit m 1 || bit m 2 ≡ not (eqb m 0)
two_bits zero h = refl
two_bits (suc zero) h = refl
two_bits (suc (suc zero)) h = refl
two_bits (suc (suc (suc zero))) h = refl
two_bits (suc (suc (suc (suc m)))) h = absurd (omega arith)

pub attribute-told : (n d : ℕ) → Tells (λ a f. judge_all (attribute_items a) f) (attribute n d) (audit_attribute n d)
attribute-told n d bs f =
    share (fields n 4 bs) _ _ _ λ m r0 e0.
    named n (place n bs) r0 f _ _ _ λ s r1.
    let g : Findings = note_empty (place n bs) (not (eqb m 0)) (note_name (place n bs) (identifier s) f) in
    chain (optional (expr n d) (bit m 1) r1) (audit_any (audit_expr n d) (bit m 1) r1 g) _ _ _ _ (any_expr-told n d (bit m 1) r1 g) λ v r2 e2.
    last (optional (expr n d) (bit m 2) r2) _ _ _ _ (any_expr-told n d (bit m 2) r2 (judge_all (any_items expr_items v) g)) λ a r3 e3.
    let t : is_some v || is_some a ≡ not (eqb m 0) = rw (stood (expr n d) (bit m 1) r1 v r2 e2, stood (expr n d) (bit m 2) r2 a r3 e3) (two_bits m (below n 4 bs m r0 e0)) in
    ap (λ (h : Findings). read h r3) (sym (judge_append (any_items expr_items v) (any_items expr_items a) g) ∙ ap (λ (b : Bool). judge_all (any_items expr_items v ++ any_items expr_items a) (note_empty (place n bs) b (note_name (place n bs) (identifier s) f))) (sym t))

pub argument-told : (n d : ℕ) → Tells (λ a f. judge_all (argument_items a) f) (argument n d) (audit_argument n d)
argument-told n d bs f =
    share (fields n 4 bs) _ _ _ λ m r0 e0.
    named n (place n bs) r0 f _ _ _ λ s r1.
    let g : Findings = note_name (place n bs) (identifier s) f in
    chain (optional (expr n d) (bit m 1) r1) (audit_any (audit_expr n d) (bit m 1) r1 g) _ _ _ _ (any_expr-told n d (bit m 1) r1 g) λ v r2 e2.
    last (optional (expr n d) (bit m 2) r2) _ _ _ _ (any_expr-told n d (bit m 2) r2 (judge_all (any_items expr_items v) g)) λ a r3 e3.
    ap (λ (h : Findings). read h r3) (sym (judge_append (any_items expr_items v) (any_items expr_items a) g))

pub star-told : (n d : ℕ) → Tells (λ a f. judge_all (star_items a) f) (star n d) (audit_star n d)
star-told n d bs f =
    share (star_fields n bs) _ _ _ λ m r0 e0.
    named n (place n bs) r0 f _ _ _ λ s r1.
    last (optional (expr n d) (bit m 2) r1) _ _ _ _ (any_expr-told n d (bit m 2) r1 (note_name (place n bs) (identifier s) f)) λ a r2 e2. refl

arguments-told : (n d : ℕ) (b : Bool) (bs : List ℕ) (f : Findings) → audit_arguments n d b bs f ≡ map_out (λ l. judge_all (each_items argument_items l) f) (arguments n d b bs)
arguments-told n d b bs f = each-told argument_items (argument n d) (audit_argument n d) (argument-told n d) n b bs f

any_star-told : (n d : ℕ) (b : Bool) (bs : List ℕ) (f : Findings) → audit_any (audit_star n d) b bs f ≡ map_out (λ o. judge_all (any_items star_items o) f) (optional (star n d) b bs)
any_star-told n d b bs f = any_told star_items (star n d) (audit_star n d) (star-told n d) b bs f

pub function-told : (n d : ℕ) → Tells (λ a f. judge_all (function_items a) f) (function n d) (audit_function n d)
function-told n d bs f =
    share (fields n 128 bs) _ _ _ λ m r0 e0.
    named n (place n bs) r0 f _ _ _ λ s r1.
    let f1 : Findings = note_name (place n bs) (identifier s) f in
    chain (exprs n d (bit m 1) r1) _ _ _ _ _ (exprs-told n d (bit m 1) r1 f1) λ decorators r2 e2.
    let f2 : Findings = judge_all (exprs_items decorators) f1 in
    chain (arguments n d (bit m 2) r2) _ _ _ _ _ (arguments-told n d (bit m 2) r2 f2) λ positional r3 e3.
    let f3 : Findings = judge_all (each_items argument_items positional) f2 in
    chain (arguments n d (bit m 4) r3) _ _ _ _ _ (arguments-told n d (bit m 4) r3 f3) λ regular r4 e4.
    let f4 : Findings = judge_all (each_items argument_items regular) f3 in
    chain (optional (star n d) (bit m 8) r4) _ _ _ _ _ (any_star-told n d (bit m 8) r4 f4) λ vararg r5 e5.
    let f5 : Findings = judge_all (any_items star_items vararg) f4 in
    chain (arguments n d (bit m 16) r5) _ _ _ _ _ (arguments-told n d (bit m 16) r5 f5) λ keyword r6 e6.
    let f6 : Findings = judge_all (each_items argument_items keyword) f5 in
    chain (optional (star n d) (bit m 32) r6) _ _ _ _ _ (any_star-told n d (bit m 32) r6 f6) λ kwarg r7 e7.
    let f7 : Findings = judge_all (any_items star_items kwarg) f6 in
    last (optional (expr n d) (bit m 64) r7) _ _ _ _ (any_expr-told n d (bit m 64) r7 f7) λ returns r8 e8.
    ap (λ (h : Findings). read h r8) (sym (judge_append (exprs_items decorators) _ f1 ∙ judge_append (each_items argument_items positional) _ f2 ∙ judge_append (each_items argument_items regular) _ f3 ∙ judge_append (any_items star_items vararg) _ f4 ∙ judge_append (each_items argument_items keyword) _ f5 ∙ judge_append (any_items star_items kwarg) _ f6))
