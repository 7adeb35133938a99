-- A model's files are reached by their places.
use Rattle.std.proofs.Common.{◌≡◌, ℕ, zero, suc, ◌+◌, ◌≤◌, Bool, true, List, [], ◌∷◌, ◌++◌, map, length, drop, Some, None, Option, sym, refl, ap, ◌∙◌, subst, append_assoc, append-nil, arith, length-append}
use Rattle.std.proofs.lemmas.List.{drop_at, map-append}
use Rattle.model.specs.Tree.{Text, Function, Attribute, Classes, Module, Modules, classes_depth, function_depth, attribute_depth, deepest, module_depth, modules_depth, pymodule, no_module, add_module}
use Rattle.model.specs.Encode as Encode
use Rattle.model.specs.Encode.{header, field, stands, list_field, function_bytes, attribute_bytes, classes_bytes, classes_count, own_bytes, module_bytes, modules_bytes, modules_count}
use Rattle.model.specs.Places.{own_at, module_at, modules_at, first_field, first_item}
use Rattle.model.specs.Read as Read
use Rattle.model.specs.Read.{Out, bit}
use Rattle.model.specs.Files.{file, files, files_in, entries, entries_in, modules_within}
use Rattle.model.proofs.Exact.{Format, ends_behind}
use Rattle.model.proofs.Numbers.{ups, ups_bits, number_writes}
use Rattle.model.proofs.Rows.{ExactIf}
use Rattle.model.proofs.Classes.{classes_exact, functions_exact, attributes_exact}
use Rattle.model.proofs.Models.{reads_exactly_lem}
use Rattle.walk.specs.Total.{number, classes, functions, attributes, own, own_in}
use Rattle.walk.specs.Reached.{own_of, FilesReached}
use Rattle.walk.proofs.Agreeing.{AgreesIf, agreed, number_agrees, classes_agrees, functions_agrees, attributes_agrees}

-- these bytes stand in the model at p
pub record Stands (bs : List ℕ) (p : ℕ) (xs : List ℕ) : Type 0 where
  pub pre : List ℕ
  pub post : List ℕ
  pub is : bs ≡ pre ++ (xs ++ post)
  pub at : length pre ≡ p

pub first : (bs : List ℕ) (p : ℕ) (xs ys : List ℕ) → Stands bs p (xs ++ ys) → Stands bs p xs
first bs p xs ys s = record { pre = s.pre; post = ys ++ s.post; is = s.is ∙ ap (λ l. s.pre ++ l) (append_assoc xs ys s.post); at = s.at }

pub behind : (bs : List ℕ) (p q : ℕ) (xs ys : List ℕ) → p + length xs ≡ q → Stands bs p (xs ++ ys) → Stands bs q ys
behind bs p q xs ys e s = record {
  pre = s.pre ++ xs;
  post = s.post;
  is = s.is ∙ (ap (λ l. s.pre ++ l) (append_assoc xs ys s.post) ∙ sym (append_assoc s.pre xs (ys ++ s.post)));
  at = length-append s.pre xs ∙ (ap (λ k. k + length xs) s.at ∙ e);
}

pub left_at : (bs : List ℕ) (p : ℕ) (xs : List ℕ) (s : Stands bs p xs) → drop p bs ≡ xs ++ s.post
left_at bs p xs s = ap (drop p) s.is ∙ drop_at s.pre (xs ++ s.post) p s.at

ends_at : (bs : List ℕ) (p : ℕ) (xs : List ℕ) (s : Stands bs p xs) → p + length (xs ++ s.post) ≡ length bs
ends_at bs p xs s = omega (arith, s.at, length-append s.pre (xs ++ s.post), ap length s.is)

-- what the law says is written, the total reading reads
written : {A : Type 0} {F : Format A} {flag : A → Bool} {n d : ℕ} (one : Bool → List ℕ → Out A) (two : Bool → List ℕ → A × List ℕ) → ExactIf F flag n d one → AgreesIf one two → (p : ℕ) (a : A) (r : List ℕ) → p + length (F.bytes a ++ r) ≡ n → F.At a p → F.depth a ≤ d → two (flag a) (F.bytes a ++ r) ≡ (a, r)
written {F = F} {flag = flag} one two x h p a r ends at deep =
    agreed (one (flag a) (F.bytes a ++ r)) (two (flag a) (F.bytes a ++ r)) a r (h (flag a) (F.bytes a ++ r)) (x.writes p a r ends at deep)

pub map_read : (bs : List ℕ) (p k : ℕ) (xs : List ℕ) → Stands bs p (Encode.number k ++ xs) → (number (drop p bs)).0 ≡ k
map_read bs p k xs s =
    ap (λ (l : List ℕ). (number l).0) (left_at bs p (Encode.number k ++ xs) s)
    ∙ ap (λ (o : ℕ × List ℕ). o.0) (agreed (Read.number 0 (Encode.number k ++ (xs ++ s.post))) (number (Encode.number k ++ (xs ++ s.post))) k (xs ++ s.post) (number_agrees 0 (Encode.number k ++ (xs ++ s.post))) (number_writes 0 k (xs ++ s.post)))

-- a module's own declarations, which are written at p
own_read : (n m p : ℕ) (cs : Classes) (fs : List Function) (as' : List Attribute) (post : List ℕ) → bit m 2 ≡ stands (classes_count cs) → bit m 4 ≡ stands (length fs) → bit m 8 ≡ stands (length as') → p + length (own_bytes cs fs as' ++ post) ≡ n → own_at cs fs as' p → classes_depth cs ≤ 64 → deepest function_depth fs ≤ 64 → deepest attribute_depth as' ≤ 64 → (own n 64 m (own_bytes cs fs as' ++ post)).0 ≡ record { classes = cs; functions = fs; attributes = as' }
own_read n m p cs fs as' post e2 e4 e8 ends at dc df da =
    let l : 64 ≤ 64 = omega arith in
    let xs : List ℕ = field (classes_count cs) (classes_bytes cs) in
    let ys : List ℕ = list_field function_bytes fs in
    let zs : List ℕ = list_field attribute_bytes as' in
    let all : xs ++ (ys ++ zs) ++ post ≡ xs ++ (ys ++ (zs ++ post)) = append_assoc xs (ys ++ zs) post ∙ ap (λ l. xs ++ l) (append_assoc ys zs post) in
    let endc : p + length (xs ++ (ys ++ (zs ++ post))) ≡ n = subst (λ (l : List ℕ). p + length l ≡ n) all ends in
    let endf : p + length xs + length (ys ++ (zs ++ post)) ≡ n = ends_behind n p xs (ys ++ (zs ++ post)) _ refl endc in
    let enda : p + length xs + length ys + length (zs ++ post) ≡ n = ends_behind n (p + length xs) ys (zs ++ post) _ refl endf in
    let c : classes n 64 (bit m 2) (xs ++ (ys ++ zs) ++ post) ≡ (cs, ys ++ (zs ++ post)) = (λ i. classes n 64 (e2 i) (all i)) ∙ written (Read.classes n 64) (classes n 64) (classes_exact n 64) (classes_agrees n 64 64 l) p cs (ys ++ (zs ++ post)) endc at.0 dc in
    let f : functions n 64 (bit m 4) (classes n 64 (bit m 2) (xs ++ (ys ++ zs) ++ post)).1 ≡ (fs, zs ++ post) = (λ i. functions n 64 (e4 i) (c i).1) ∙ written (Read.functions n 64) (functions n 64) (functions_exact n 64) (functions_agrees n 64 64 l) (p + length xs) fs (zs ++ post) endf at.1.0 df in
    let a : attributes n 64 (bit m 8) (functions n 64 (bit m 4) (classes n 64 (bit m 2) (xs ++ (ys ++ zs) ++ post)).1).1 ≡ (as', post) = (λ i. attributes n 64 (e8 i) (f i).1) ∙ written (Read.attributes n 64) (attributes n 64) (attributes_exact n 64) (attributes_agrees n 64 64 l) (p + length xs + length ys) as' post enda at.1.1 da in
    λ i. record { classes = (c i).0; functions = (f i).0; attributes = (a i).0 }

-- the bit with this number
abbrev pub nth : ℕ → List Bool → Bool
nth k [] = true
nth zero (b ∷ l) = b
nth (suc k) (b ∷ l) = nth k l

-- a module's submodules, where there are any
abbrev pub Items : List ℕ → ℕ → Modules → Type 0
Items bs p no_module = Unit {0}
Items bs p (add_module m ms) = Stands bs p (module_bytes m ++ modules_bytes ms)

pub field_items : (bs : List ℕ) (q : ℕ) (ms : Modules) → Stands bs q (field (modules_count ms) (modules_bytes ms)) → Items bs (first_item q) ms
field_items bs q no_module s = tt
field_items bs q (add_module m ms) s = behind bs q (first_item q) (Encode.number (modules_count (add_module m ms))) (module_bytes m ++ modules_bytes ms) refl s

pub items : (bs : List ℕ) (p : ℕ) (ms : Modules) → Stands bs p (modules_bytes ms) → Items bs p ms
items bs p no_module s = tt
items bs p (add_module m ms) s = s

module-own : (bs : List ℕ) (q : ℕ) (s : Text) (ms : Modules) (o : ℕ) (cs : Classes) (fs : List Function) (as' : List Attribute) (p : ℕ) (h : Option ℕ) → Stands bs p (module_bytes (pymodule q s ms o cs fs as')) → module_at (pymodule q s ms o cs fs as') p → module_depth (pymodule q s ms o cs fs as') ≤ 64 → own_in bs (file q h o) ≡ record { classes = cs; functions = fs; attributes = as' }
module-own bs q s ms o cs fs as' p h st at deep =
    let flags : List Bool = stands (modules_count ms) ∷ stands (classes_count cs) ∷ stands (length fs) ∷ stands (length as') ∷ [] in
    let m : ℕ = Encode.bits flags in
    let mods : List ℕ = field (modules_count ms) (modules_bytes ms) in
    let owns : List ℕ = own_bytes cs fs as' in
    let r : ℕ = first_field p s + length mods in
    let inside : Stands bs (first_field p s) (mods ++ owns) = behind bs p (first_field p s) (header flags s) (mods ++ owns) (omega arith) st in
    let st' : Stands bs r owns = behind bs (first_field p s) r mods owns refl inside in
    let em : (number (drop q bs)).0 ≡ m = ap (λ x. (number (drop x bs)).0) at.0 ∙ map_read bs p m (Encode.text s ++ (mods ++ owns)) st in
    let eo : drop o bs ≡ owns ++ st'.post = ap (λ x. drop x bs) at.1.1.0 ∙ left_at bs r owns st' in
    let ups_are : ups m 1 4 ≡ flags = ups_bits flags in
    (λ i. (own (length bs) 64 (em i) (eo i)).0)
    ∙ own_read (length bs) m r cs fs as' st'.post (ap (nth 1) ups_are) (ap (nth 2) ups_are) (ap (nth 3) ups_are) (ends_at bs r owns st') at.1.1.1 (omega arith) (omega arith) (omega arith)

pub module_items_lem : (bs : List ℕ) (q : ℕ) (s : Text) (ms : Modules) (o : ℕ) (cs : Classes) (fs : List Function) (as' : List Attribute) (p : ℕ) → Stands bs p (module_bytes (pymodule q s ms o cs fs as')) → Items bs (first_item (first_field p s)) ms
module_items_lem bs q s ms o cs fs as' p st =
    let flags : List Bool = stands (modules_count ms) ∷ stands (classes_count cs) ∷ stands (length fs) ∷ stands (length as') ∷ [] in
    let mods : List ℕ = field (modules_count ms) (modules_bytes ms) in
    let owns : List ℕ = own_bytes cs fs as' in
    field_items bs (first_field p s) ms (first bs (first_field p s) mods owns (behind bs p (first_field p s) (header flags s) (mods ++ owns) (omega arith) st))

mutual
  reached : (bs : List ℕ) (m : Module) (p k : ℕ) (h : Option ℕ) → Stands bs p (module_bytes m) → module_at m p → module_depth m ≤ 64 → map (own_in bs) (entries m k h) ≡ map own_of (files m)
  reached bs (pymodule q s ms o cs fs as') p k h st at deep =
      let here = module-own bs q s ms o cs fs as' p h st at deep in
      let below = reached_in bs ms (first_item (first_field p s)) (k + 1) (Some k) (module_items_lem bs q s ms o cs fs as' p st) at.1.0 (omega arith) in
      λ i. here i ∷ below i

  reached_in : (bs : List ℕ) (ms : Modules) (p k : ℕ) (h : Option ℕ) → Items bs p ms → modules_at ms p → modules_depth ms ≤ 64 → map (own_in bs) (entries_in ms k h) ≡ map own_of (files_in ms)
  reached_in bs no_module p k h st at deep = refl
  reached_in bs (add_module m ms) p k h st at deep =
      let here = reached bs m p k h (first bs p (module_bytes m) (modules_bytes ms) st) at.0 (omega arith) in
      let next = reached_in bs ms (p + length (module_bytes m)) (k + modules_within m) h (items bs (p + length (module_bytes m)) ms (behind bs p (p + length (module_bytes m)) (module_bytes m) (modules_bytes ms) refl st)) at.1 (omega arith) in
      map-append (own_in bs) (entries m k h) (entries_in ms (k + modules_within m) h) ∙ ((λ i. here i ++ next i) ∙ sym (map-append own_of (files m) (files_in ms)))

pub files-reached : FilesReached
files-reached bs b m e =
    let d = (reads_exactly_lem bs b m).0 e in
    reached bs m 1 0 None (record { pre = 1 ∷ []; post = []; is = d.0 ∙ ap (λ l. 1 ∷ l) (sym (append-nil (module_bytes m))); at = refl }) d.1.1 d.1.0
