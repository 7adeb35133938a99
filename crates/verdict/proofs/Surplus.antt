-- What the files of a model hold too much of, file by file.
use Rattle.std.proofs.Common.{◌≡◌, ℕ, ◌+◌, ◌<◌, ◌≤◌, min, List, [], ◌∷◌, ◌++◌, map, length, get_or, take, drop, Option, sym, refl, ap, ◌∙◌, append_assoc}
use Rattle.std.specs.List.{reduce}
use Rattle.std.specs.Option.{option_map}
use Rattle.std.proofs.lemmas.Iterator.Adapters.{option_map_id}
use Rattle.std.proofs.lemmas.List.{take_more, take_all, drop-map, map_push}
use Rattle.model.proofs.Leasts.{reduce_min}
use Rattle.model.specs.declared.files.File.{File}
use Rattle.model.specs.declared.files.Listed.{Listed}
use Rattle.model.specs.declared.uses.Use.{Use as UseOf}
use Rattle.model.specs.declared.uses.Declared.{Declared as DeclaredOf}
use Rattle.model.specs.Rules.{least}
use Rattle.model.specs.Uses.{Use, Declared, collected, declarations}
use Rattle.model.specs.Limits.{surplus_uses, surplus_declared_of}
use Rattle.model.specs.Steps.{file_of, use_of, declared_of}
use Rattle.model.specs.Verdict.{modules_allowed}
use Rattle.walk.specs.Total.{Own, own_in}
use Rattle.model.specs.Rules.{soonest}
use Rattle.verdict.specs.Judged.{own_surplus, files_surplus_of, file_place, surplus_in}
use Rattle.verdict.proofs.Roots.{soonest_append}

pub own-surplus : (o : Own) (p q r : Option ℕ) (ds es : List DeclaredOf) (us vs : List UseOf) → ds ≡ es → map declared_of es ≡ declarations o.classes o.functions o.attributes → p ≡ least (surplus_declared_of (map declared_of ds)) → us ≡ vs → map use_of vs ≡ collected o.classes o.functions o.attributes → q ≡ least (surplus_uses (map use_of us)) → r ≡ soonest p q → r ≡ least (own_surplus o)
own-surplus o p q r ds es us vs d1 d2 d3 u1 u2 u3 e =
    let a : p ≡ least (surplus_declared_of (declarations o.classes o.functions o.attributes)) = d3 ∙ ap (λ (l : List DeclaredOf). least (surplus_declared_of (map declared_of l))) d1 ∙ ap (λ (l : List Declared). least (surplus_declared_of l)) d2 in
    let b : q ≡ least (surplus_uses (collected o.classes o.functions o.attributes)) = u3 ∙ ap (λ (l : List UseOf). least (surplus_uses (map use_of l))) u1 ∙ ap (λ (l : List Use). least (surplus_uses l)) u2 in
    e ∙ ap (λ (x : Option ℕ). soonest x q) a ∙ ap (λ (x : Option ℕ). soonest (least (surplus_declared_of (declarations o.classes o.functions o.attributes))) x) b ∙ soonest_append (surplus_declared_of (declarations o.classes o.functions o.attributes)) (surplus_uses (collected o.classes o.functions o.attributes))

files_append : (bs : List ℕ) (xs ys : List File) → files_surplus_of bs (xs ++ ys) ≡ files_surplus_of bs xs ++ files_surplus_of bs ys
files_append bs [] ys = refl
files_append bs (x ∷ xs) ys =
    ap (λ (l : List ℕ). own_surplus (own_in bs x) ++ l) (files_append bs xs ys) ∙ sym (append_assoc (own_surplus (own_in bs x)) (files_surplus_of bs xs) (files_surplus_of bs ys))

append_none : {A : Type 0} (xs : List A) → xs ++ [] ≡ xs
append_none [] = refl
append_none (x ∷ xs) = ap (λ (l : List _). x ∷ l) (append_none xs)

-- one file more
pub files-more : (bs : List ℕ) (ms : List Listed) (i : ℕ) (d : Listed) (a b c : Option ℕ) → i < length ms → a ≡ least (files_surplus_of bs (map file_of (take i ms))) → b ≡ least (own_surplus (own_in bs (get_or ms i d).file)) → c ≡ soonest a b → c ≡ least (files_surplus_of bs (map file_of (take (i + 1) ms)))
files-more bs ms i d a b c h x y z =
    let fs = map file_of (take i ms) in
    let f = (get_or ms i d).file in
    z ∙ ap (λ (o : Option ℕ). soonest o b) x ∙ ap (λ (o : Option ℕ). soonest (least (files_surplus_of bs fs)) o) y ∙ soonest_append (files_surplus_of bs fs) (own_surplus (own_in bs f)) ∙ ap (λ (l : List ℕ). least (files_surplus_of bs fs ++ l)) (sym (append_none (own_surplus (own_in bs f)))) ∙ ap least (sym (files_append bs fs (f ∷ []))) ∙ ap (λ (l : List File). least (files_surplus_of bs l)) (sym (ap (map file_of) (take_more ms i d h) ∙ map_push file_of (take i ms) (get_or ms i d)))

pub files-all : (bs : List ℕ) (ms : List Listed) (i : ℕ) (a : Option ℕ) → length ms ≤ i → a ≡ least (files_surplus_of bs (map file_of (take i ms))) → a ≡ least (files_surplus_of bs (map file_of ms))
files-all bs ms i a h x = x ∙ ap (λ (l : List Listed). least (files_surplus_of bs (map file_of l))) (take_all i ms h)

places_twice : (ms : List Listed) → map (λ (m : Listed). m.file.place) ms ≡ map file_place (map file_of ms)
places_twice [] = refl
places_twice (m ∷ ms) = ap (λ (l : List ℕ). m.file.place ∷ l) (places_twice ms)

-- the modules behind those that are allowed
pub places_past : (ms : List Listed) (r : Option ℕ) → option_map (λ p. p) r ≡ reduce min (map (λ (m : Listed). m.file.place) (drop modules_allowed ms)) → r ≡ least (drop modules_allowed (map file_place (map file_of ms)))
places_past ms r e = sym (option_map_id r) ∙ e ∙ reduce_min _ ∙ ap least (sym (drop-map (λ (m : Listed). m.file.place) modules_allowed ms) ∙ ap (drop modules_allowed) (places_twice ms))

pub surplus-all : (bs : List ℕ) (fs : List File) (a b c : Option ℕ) → a ≡ least (drop modules_allowed (map file_place fs)) → b ≡ least (files_surplus_of bs fs) → c ≡ soonest a b → c ≡ least (surplus_in bs fs)
surplus-all bs fs a b c x y z =
    z ∙ ap (λ (o : Option ℕ). soonest o b) x ∙ ap (λ (o : Option ℕ). soonest (least (drop modules_allowed (map file_place fs))) o) y ∙ soonest_append (drop modules_allowed (map file_place fs)) (files_surplus_of bs fs)
