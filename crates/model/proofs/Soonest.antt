-- Noting as one goes gives, for each rule, the least of all places at which it shows.
use Rattle.std.proofs.Common.{◌≡◌, ℕ, min, Bool, true, false, List, [], ◌∷◌, ◌++◌, Some, None, Option, sym, refl, ap, ◌∙◌, arith}
use Rattle.text.specs.Names.{identifier, dotted}
use Rattle.model.specs.declared.findings.Findings.{Findings}
use Rattle.model.specs.Tree.{Module}
use Rattle.model.specs.Read.{Out, read, fault, model}
use Rattle.model.specs.Rules.{Item, record_name, dotted_name, literal, declared, well_formed, unless, broken_name, broken_value, empty_attribute, places_of, sooner, least, module_items}
use Rattle.model.specs.Audit.{earlier, note_name, note_value, note_empty, judge_item, judge_all, nothing, Gathered, gather_all, summary, map_out, AuditsTree}
use Rattle.model.proofs.ToldModules.{audits_all}

-- the earliest of what was noted and these places
abbrev pub noted : Option ℕ → List ℕ → Option ℕ
noted o [] = o
noted o (p ∷ ps) = noted (earlier o p) ps

abbrev pub merged : Option ℕ → Option ℕ → Option ℕ
merged None x = x
merged (Some q) None = Some q
merged (Some q) (Some p) = Some (min q p)

pub noted_append : (o : Option ℕ) (xs ys : List ℕ) → noted o (xs ++ ys) ≡ noted (noted o xs) ys
noted_append o [] ys = refl
noted_append o (x ∷ xs) ys = noted_append (earlier o x) xs ys

merged_earlier : (o : Option ℕ) (p : ℕ) (x : Option ℕ) → merged (earlier o p) x ≡ merged o (Some (sooner p x))
merged_earlier None p None = refl
merged_earlier None p (Some q) = refl
merged_earlier (Some r) p None = refl
merged_earlier (Some r) p (Some q) = ap Some (omega arith)

merged_none : (o : Option ℕ) → merged o None ≡ o
merged_none None = refl
merged_none (Some q) = refl

pub noted_is : (o : Option ℕ) (ps : List ℕ) → noted o ps ≡ merged o (least ps)
noted_is o [] = sym (merged_none o)
noted_is o (p ∷ ps) = noted_is (earlier o p) ps ∙ merged_earlier o p (least ps)

-- the least of two lists together
pub least_append : (xs ys : List ℕ) → least (xs ++ ys) ≡ merged (least xs) (least ys)
least_append xs ys = sym (noted_is None (xs ++ ys)) ∙ noted_append None xs ys ∙ noted_is (noted None xs) ys ∙ ap (λ (o : Option ℕ). merged o (least ys)) (noted_is None xs)

name_noted : (p : ℕ) (b : Bool) (f : Findings) → (note_name p b f).names ≡ noted f.names (unless b p)
name_noted p true f = refl
name_noted p false f = refl

name_aside : (p : ℕ) (b : Bool) (f : Findings) → ((note_name p b f).values ≡ f.values) × ((note_name p b f).empty ≡ f.empty)
name_aside p true f = (refl, refl)
name_aside p false f = (refl, refl)

value_noted : (p : ℕ) (b : Bool) (f : Findings) → (note_value p b f).values ≡ noted f.values (unless b p)
value_noted p true f = refl
value_noted p false f = refl

value_aside : (p : ℕ) (b : Bool) (f : Findings) → ((note_value p b f).names ≡ f.names) × ((note_value p b f).empty ≡ f.empty)
value_aside p true f = (refl, refl)
value_aside p false f = (refl, refl)

empty_noted : (p : ℕ) (b : Bool) (f : Findings) → (note_empty p b f).empty ≡ noted f.empty (unless b p)
empty_noted p true f = refl
empty_noted p false f = refl

empty_aside : (p : ℕ) (b : Bool) (f : Findings) → ((note_empty p b f).names ≡ f.names) × ((note_empty p b f).values ≡ f.values)
empty_aside p true f = (refl, refl)
empty_aside p false f = (refl, refl)

names-item : (i : Item) (f : Findings) → (judge_item i f).names ≡ noted f.names (broken_name i)
names-item (record_name p s) f = name_noted p (identifier s) f
names-item (dotted_name p s) f = name_noted p (dotted s) f
names-item (literal p c) f = (value_aside p (well_formed c) f).0
names-item (declared p b) f = (empty_aside p b f).0

values-item : (i : Item) (f : Findings) → (judge_item i f).values ≡ noted f.values (broken_value i)
values-item (record_name p s) f = (name_aside p (identifier s) f).0
values-item (dotted_name p s) f = (name_aside p (dotted s) f).0
values-item (literal p c) f = value_noted p (well_formed c) f
values-item (declared p b) f = (empty_aside p b f).1

empty_item : (i : Item) (f : Findings) → (judge_item i f).empty ≡ noted f.empty (empty_attribute i)
empty_item (record_name p s) f = (name_aside p (identifier s) f).1
empty_item (dotted_name p s) f = (name_aside p (dotted s) f).1
empty_item (literal p c) f = (value_aside p (well_formed c) f).1
empty_item (declared p b) f = empty_noted p b f

-- one rule, over all items
all_items : (rule : Item → List ℕ) (field : Findings → Option ℕ) → ((i : Item) (f : Findings) → field (judge_item i f) ≡ noted (field f) (rule i)) → (is : List Item) (f : Findings) → field (judge_all is f) ≡ noted (field f) (places_of rule is)
all_items rule field one [] f = refl
all_items rule field one (i ∷ is) f =
    all_items rule field one is (judge_item i f) ∙ ap (λ (o : Option ℕ). noted o (places_of rule is)) (one i f) ∙ sym (noted_append (field f) (rule i) (places_of rule is))

found-is : (m : Module) → gather_all m ≡ summary m
found-is m =
    let is : List Item = module_items m in
    let a = all_items broken_name (λ f. f.names) names-item is nothing.found ∙ noted_is None (places_of broken_name is) in
    let b = all_items broken_value (λ f. f.values) values-item is nothing.found ∙ noted_is None (places_of broken_value is) in
    let c = all_items empty_attribute (λ f. f.empty) empty_item is nothing.found ∙ noted_is None (places_of empty_attribute is) in
    same (judge_all is nothing.found) _ _ _ a b c
  where
    same : (f : Findings) (x y z : Option ℕ) → f.names ≡ x → f.values ≡ y → f.empty ≡ z → ◌≡◌ {A = Gathered} (record { found = f; files = (gather_all m).files; siblings = (gather_all m).siblings }) (record { found = record { names = x; values = y; empty = z }; files = (gather_all m).files; siblings = (gather_all m).siblings })
    same f x y z a b c = rw (← a, ← b, ← c) refl

map_same : (o : Out Module) → map_out gather_all o ≡ map_out summary o
map_same (read m r) = ap (λ (g : Gathered). read g r) (found-is m)
map_same (fault p) = refl

pub audits_tree : AuditsTree
audits_tree bs = audits_all bs ∙ map_same (model bs)
