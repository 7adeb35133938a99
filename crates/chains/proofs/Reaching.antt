-- By a model's list of files in short, the names and the packages of its tree are found.
use Rattle.std.proofs.Common.{◌≡◌, ℕ, zero, suc, ◌+◌, ◌-◌, ◌<◌, ◌≤◌, Bool, true, List, [], ◌∷◌, ◌++◌, map, length, get_or, take, drop, Some, None, Option, sym, refl, ap, ◌∙◌, subst, inl, inr, div-add-mod', arith}
use Rattle.std.specs.List.{slice_get as nth_of}
use Rattle.std.proofs.lemmas.List.{append-nil, append_assoc, length-append, length-map, map-append, take_at, get_or_past}
use Rattle.std.proofs.lemmas.Bool.{cases_lt}
use Rattle.model.specs.declared.files.File.{File}
use Rattle.model.specs.Tree.{Text, Function, Attribute, Classes, Module, Modules, module_depth, modules_depth, pymodule, no_module, add_module}
use Rattle.model.specs.Encode as Encode
use Rattle.model.specs.Encode.{field, stands, own_bytes, module_bytes, modules_bytes, modules_count, classes_count}
use Rattle.model.specs.Places.{module_at, modules_at, first_field, first_item}
use Rattle.model.specs.Read.{bit}
use Rattle.model.specs.Files.{file, files, files_in, entries, entries_in, modules_within, modules_in}
use Rattle.model.proofs.Numbers.{ups_bits}
use Rattle.model.proofs.Models.{reads_exactly_lem}
use Rattle.walk.specs.Total.{number, text}
use Rattle.walk.proofs.Reaching.{Stands, first, behind, left_at, map_read, nth, Items, items, module_items_lem}
use Rattle.paths.specs.Paths.{join, join_from}
use Rattle.chains.specs.Chains.{chains, chains_in, own_names, has_submodules, packages, map_of, name_of, before, own_in, package_in}
use Rattle.chains.specs.Laws.{ModulesReached}
use Rattle.chains.proofs.Opened.{own_at, own_past}

-- A record's header

text-written : (s r : List ℕ) → (text (Encode.text s ++ r)).0 ≡ s
text-written s r = ap (λ k. take k (s ++ r)) (div-add-mod' (length s) 256) ∙ take_at s r (length s) refl

-- the bytes of a module
abbrev flags_of : Modules → Classes → List Function → List Attribute → List Bool
flags_of ms cs fs as' = stands (modules_count ms) ∷ stands (classes_count cs) ∷ stands (length fs) ∷ stands (length as') ∷ []

abbrev rest_of : Modules → Classes → List Function → List Attribute → List ℕ
rest_of ms cs fs as' = field (modules_count ms) (modules_bytes ms) ++ own_bytes cs fs as'

name-read : (bs : List ℕ) (p k : ℕ) (s xs : List ℕ) → Stands bs p (Encode.number k ++ (Encode.text s ++ xs)) → (text (number (drop p bs)).1).0 ≡ s
name-read bs p k s xs st =
    ap (λ (l : List ℕ). (text (number l).1).0) (left_at bs p (Encode.number k ++ (Encode.text s ++ xs)) st)
    ∙ (ap (λ (l : List ℕ). (text l).0) (append_assoc (Encode.text s) xs st.post) ∙ text-written s (xs ++ st.post))

has_submodules_lem : (q : ℕ) (s : Text) (ms : Modules) (o : ℕ) (cs : Classes) (fs : List Function) (as' : List Attribute) → stands (modules_count ms) ≡ has_submodules (pymodule q s ms o cs fs as')
has_submodules_lem q s no_module o cs fs as' = refl
has_submodules_lem q s (add_module m ms) o cs fs as' = refl

module _ (bs : List ℕ) (q : ℕ) (s : Text) (ms : Modules) (o : ℕ) (cs : Classes) (fs : List Function) (as' : List Attribute) (p : ℕ) (h : Option ℕ) (st : Stands bs p (module_bytes (pymodule q s ms o cs fs as'))) (at : module_at (pymodule q s ms o cs fs as') p) where
  module-name : name_of bs (file q h o) ≡ s
  module-name =
      ap (λ x. (text (number (drop x bs)).1).0) at.0 ∙ name-read bs p (Encode.bits (flags_of ms cs fs as')) s (rest_of ms cs fs as') st

  module_flag : bit (map_of bs (file q h o)) 1 ≡ has_submodules (pymodule q s ms o cs fs as')
  module_flag =
      ap (λ x. bit (number (drop x bs)).0 1) at.0
      ∙ (ap (λ x. bit x 1) (map_read bs p (Encode.bits (flags_of ms cs fs as')) (Encode.text s ++ rest_of ms cs fs as') st)
      ∙ (ap (nth 0) (ups_bits (flags_of ms cs fs as')) ∙ has_submodules_lem q s ms o cs fs as'))

-- Packages

mutual
  flagged : (bs : List ℕ) (m : Module) (p k h : ℕ) → Stands bs p (module_bytes m) → module_at m p → map (package_in bs) (entries m k (Some h)) ≡ map has_submodules (files m)
  flagged bs (pymodule q s ms o cs fs as') p k h st at =
      let here = module_flag bs q s ms o cs fs as' p (Some h) st at in
      let below = flagged_in bs ms (first_item (first_field p s)) (k + 1) k (module_items_lem bs q s ms o cs fs as' p st) at.1.0 in
      λ i. here i ∷ below i

  flagged_in : (bs : List ℕ) (ms : Modules) (p k h : ℕ) → Items bs p ms → modules_at ms p → map (package_in bs) (entries_in ms k (Some h)) ≡ map has_submodules (files_in ms)
  flagged_in bs no_module p k h st at = refl
  flagged_in bs (add_module m ms) p k h st at =
      let here = flagged bs m p k h (first bs p (module_bytes m) (modules_bytes ms) st) at.0 in
      let next = flagged_in bs ms (p + length (module_bytes m)) (k + modules_within m) h (items bs (p + length (module_bytes m)) ms (behind bs p (p + length (module_bytes m)) (module_bytes m) (modules_bytes ms) refl st)) at.1 in
      map-append (package_in bs) (entries m k (Some h)) (entries_in ms (k + modules_within m) (Some h)) ∙ ((λ i. here i ++ next i) ∙ sym (map-append has_submodules (files m) (files_in ms)))

root-flagged : (bs : List ℕ) (m : Module) (p : ℕ) → Stands bs p (module_bytes m) → module_at m p → map (package_in bs) (entries m 0 None) ≡ packages m
root-flagged bs (pymodule q s ms o cs fs as') p st at =
    ap (λ l. true ∷ l) (flagged_in bs ms (first_item (first_field p s)) 1 0 (module_items_lem bs q s ms o cs fs as' p st) at.1.0)

-- Names

-- these files are listed from k on
record Listed (all : List File) (k : ℕ) (part : List File) : Type 0 where
  pre : List File
  post : List File
  is : all ≡ pre ++ (part ++ post)
  at : length pre ≡ k

listed-first : (all : List File) (k : ℕ) (xs ys : List File) → Listed all k (xs ++ ys) → Listed all k xs
listed-first all k xs ys l = record { pre = l.pre; post = ys ++ l.post; is = l.is ∙ ap (λ x. l.pre ++ x) (append_assoc xs ys l.post); at = l.at }

listed-behind : (all : List File) (k n : ℕ) (xs ys : List File) → k + length xs ≡ n → Listed all k (xs ++ ys) → Listed all n ys
listed-behind all k n xs ys e l = record {
  pre = l.pre ++ xs;
  post = l.post;
  is = l.is ∙ (ap (λ x. l.pre ++ x) (append_assoc xs ys l.post) ∙ sym (append_assoc l.pre xs (ys ++ l.post)));
  at = length-append l.pre xs ∙ (ap (λ x. x + length xs) l.at ∙ e);
}

nth_at : (pre : List File) (f : File) (post : List File) (k : ℕ) → length pre ≡ k → nth_of (pre ++ f ∷ post) k ≡ Some f
nth_at [] f post zero e = refl
nth_at [] f post (suc k) e = absurd (omega arith)
nth_at (x ∷ pre) f post zero e = absurd (omega arith)
nth_at (x ∷ pre) f post (suc k) e = nth_at pre f post k (omega arith)

listed_nth : (all : List File) (k : ℕ) (f : File) (fs : List File) → Listed all k (f ∷ fs) → nth_of all k ≡ Some f
listed_nth all k f fs l = ap (λ x. nth_of x k) l.is ∙ nth_at l.pre f (fs ++ l.post) k l.at

-- f gives these from k on
abbrev Gives : (ℕ → List ℕ) → ℕ → List (List ℕ) → Type 0
Gives f k [] = Unit {0}
Gives f k (x ∷ xs) = (f k ≡ x) × Gives f (k + 1) xs

gives_more : (f : ℕ → List ℕ) (k n : ℕ) (xs ys : List (List ℕ)) → k + length xs ≡ n → Gives f k xs → Gives f n ys → Gives f k (xs ++ ys)
gives_more f k n [] ys e g r = let same : n ≡ k = omega arith in subst (λ i. Gives f i ys) same r
gives_more f k n (x ∷ xs) ys e g r = (g.0, gives_more f (k + 1) n xs ys (omega arith) g.1 r)

gives_at : (f : ℕ → List ℕ) (k i : ℕ) (xs : List (List ℕ)) → Gives f k xs → i < length xs → f (k + i) ≡ get_or xs i []
gives_at f k i [] g l = absurd (omega arith)
gives_at f k zero (x ∷ xs) g l = let same : k + 0 ≡ k = omega arith in ap f same ∙ g.0
gives_at f k (suc i) (x ∷ xs) g l = let same : k + suc i ≡ k + 1 + i = omega arith in ap f same ∙ gives_at f (k + 1) i xs g.1 (omega arith)

-- how many there are of each

mutual
  pub entries-many : (m : Module) (k : ℕ) (h : Option ℕ) → length (entries m k h) ≡ modules_within m
  entries-many (pymodule q s ms o cs fs as') k h = let below = entries_in-many ms (k + 1) (Some k) in omega arith

  pub entries_in-many : (ms : Modules) (k : ℕ) (h : Option ℕ) → length (entries_in ms k h) ≡ modules_in ms
  entries_in-many no_module k h = refl
  entries_in-many (add_module m ms) k h = omega (arith, length-append (entries m k h) (entries_in ms (k + modules_within m) h), entries-many m k h, entries_in-many ms (k + modules_within m) h)

mutual
  pub chains-many : (m : Module) (above : List Text) → length (chains m above) ≡ modules_within m
  chains-many (pymodule q s ms o cs fs as') above = let below = chains_in-many ms (above ++ s ∷ []) in omega arith

  pub chains_in-many : (ms : Modules) (above : List Text) → length (chains_in ms above) ≡ modules_in ms
  chains_in-many no_module above = refl
  chains_in-many (add_module m ms) above = omega (arith, length-append (chains m above) (chains_in ms above), chains-many m above, chains_in-many ms above)

-- one part more

join_more : (t : Text) (ts : List Text) (s : Text) → join_from t (ts ++ s ∷ []) ≡ join_from t ts ++ 46 ∷ s
join_more t [] s = refl
join_more t (u ∷ us) s = ap (λ x. t ++ 46 ∷ x) (join_more u us s) ∙ sym (append_assoc t (46 ∷ join_from u us) (46 ∷ s))

pub join-below : (above : List Text) (t s : Text) → join ((above ++ t ∷ []) ++ s ∷ []) ≡ join (above ++ t ∷ []) ++ 46 ∷ s
join-below [] t s = refl
join-below (a ∷ above) t s = join_more a (above ++ t ∷ []) s

-- at any depth from `least` on, what stands before a name below `above` is right
abbrev Above : List ℕ → List File → Option ℕ → List Text → ℕ → Type 0
Above bs all h above least = (d : ℕ) → least ≤ d → (s : Text) → before h (own_in bs all d) ++ s ≡ join (above ++ s ∷ [])

named_here : (bs : List ℕ) (all : List File) (k : ℕ) (f : File) (fs : List File) (s : Text) (above : List Text) (least : ℕ) → Listed all k (f ∷ fs) → name_of bs f ≡ s → Above bs all f.holder above least → (d : ℕ) → suc least ≤ d → own_in bs all d k ≡ join (above ++ s ∷ [])
named_here bs all k f fs s above least l e up d deep =
    own_at bs all d k f (λ z. omega arith) (listed_nth all k f fs l) ∙ (ap (λ x. before f.holder (own_in bs all (d - 1)) ++ x) e ∙ up (d - 1) (omega arith) s)

above_below : (bs : List ℕ) (all : List File) (k : ℕ) (t : Text) (above : List Text) (least : ℕ) → ((d : ℕ) → least ≤ d → own_in bs all d k ≡ join (above ++ t ∷ [])) → Above bs all (Some k) (above ++ t ∷ []) least
above_below bs all k t above least here d deep s =
    append_assoc (own_in bs all d k) (46 ∷ []) s ∙ (ap (λ x. x ++ 46 ∷ s) (here d deep) ∙ sym (join-below above t s))

module _ (bs : List ℕ) (all : List File) where
  mutual
    named : (m : Module) (p k : ℕ) (h : Option ℕ) (above : List Text) (least d : ℕ) → Stands bs p (module_bytes m) → module_at m p → Listed all k (entries m k h) → Above bs all h above least → least + module_depth m ≤ d → Gives (own_in bs all d) k (map join (chains m above))
    named (pymodule q s ms o cs fs as') p k h above least d st at l up deep =
        let here : (e : ℕ) → suc least ≤ e → own_in bs all e k ≡ join (above ++ s ∷ []) = named_here bs all k (file q h o) (entries_in ms (k + 1) (Some k)) s above least l (module-name bs q s ms o cs fs as' p h st at) up in
        let below = named_in ms (first_item (first_field p s)) (k + 1) k (above ++ s ∷ []) (suc least) d (module_items_lem bs q s ms o cs fs as' p st) at.1.0 (listed-behind all k (k + 1) (file q h o ∷ []) (entries_in ms (k + 1) (Some k)) refl l) (above_below bs all k s above (suc least) here) (omega arith) in
        (here d (omega arith), below)

    named_in : (ms : Modules) (p k h : ℕ) (above : List Text) (least d : ℕ) → Items bs p ms → modules_at ms p → Listed all k (entries_in ms k (Some h)) → Above bs all (Some h) above least → least + modules_depth ms ≤ d → Gives (own_in bs all d) k (map join (chains_in ms above))
    named_in no_module p k h above least d st at l up deep = tt
    named_in (add_module m ms) p k h above least d st at l up deep =
        let n : ℕ = k + modules_within m in
        let r : ℕ = p + length (module_bytes m) in
        let here = named m p k (Some h) above least d (first bs p (module_bytes m) (modules_bytes ms) st) at.0 (listed-first all k (entries m k (Some h)) (entries_in ms n (Some h)) l) up (omega arith) in
        let next = named_in ms r n h above least d (items bs r ms (behind bs p r (module_bytes m) (modules_bytes ms) refl st)) at.1 (listed-behind all k n (entries m k (Some h)) (entries_in ms n (Some h)) (ap (λ x. k + x) (entries-many m k (Some h))) l) up (omega arith) in
        subst (Gives (own_in bs all d) k) (sym (map-append join (chains m above) (chains_in ms above)))
        (gives_more (own_in bs all d) k n (map join (chains m above)) (map join (chains_in ms above)) (omega (arith, length-map (chains m above) join, chains-many m above)) here next)

-- the whole model
pub own-names : (bs : List ℕ) (m : Module) → Stands bs 1 (module_bytes m) → module_at m 1 → module_depth m ≤ 64 → (k : ℕ) → own_in bs (entries m 0 None) 64 k ≡ get_or (own_names m) k []
own-names bs m st at deep k =
    let all : List File = entries m 0 None in
    let many : length (own_names m) ≡ length all = length-map (chains m []) join ∙ (chains-many m [] ∙ sym (entries-many m 0 None)) in
    elim (cases_lt k (length (own_names m))) [
      | inl l ↦ let same : k ≡ 0 + k = omega arith in ap (own_in bs all 64) same ∙ gives_at (own_in bs all 64) 0 k (own_names m) (named bs all m 1 0 None [] 0 64 st at (record { pre = []; post = []; is = sym (append-nil all); at = refl }) (λ d l s. refl) (omega arith)) l
      | inr l ↦ own_past bs all 64 k (omega arith) ∙ sym (get_or_past (own_names m) k [] l)
    ]

pub modules-reached : ModulesReached
modules-reached bs b m e =
    let d = (reads_exactly_lem bs b m).0 e in
    let st : Stands bs 1 (module_bytes m) = record { pre = 1 ∷ []; post = []; is = d.0 ∙ ap (λ l. 1 ∷ l) (sym (append-nil (module_bytes m))); at = refl } in
    record { names = own-names bs m st d.1.1 d.1.0; flags = root-flagged bs m 1 st d.1.1 }
