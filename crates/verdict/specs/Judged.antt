-- The verdict on a model as the code comes to it, from what reading it has gathered, and what judging a model answers.
use Rattle.std.specs.Prelude.{◌≡◌, ℕ, cond, List, [], ◌∷◌, ◌++◌, map, drop, None, Ok, Err, vec_items, Result, Vec}
use Rattle.std.specs.declared.alloc.Global.{Global}
use Rattle.model.specs.declared.files.File.{File}
use Rattle.model.specs.Tree.{Module}
use Rattle.model.specs.Read.{Out, read, fault, model}
use Rattle.model.specs.Rules.{least, soonest}
use Rattle.model.specs.Files.{Held, entries}
use Rattle.model.specs.Uses.{builtins, collected, declarations}
use Rattle.model.specs.Limits.{same_text_of, repeated_siblings, surplus_uses, surplus_declared_of}
use Rattle.model.specs.Verdict.{Verdict, accepted, refused_at, modules_allowed, verdict}
use Rattle.model.specs.Audit.{Gathered}
use Rattle.walk.specs.Total.{Own, own_in}
use Rattle.verdict.specs.declared.refusal.Refusal.{Refusal}
use Rattle.verdict.specs.Answers.{Says}

-- the first module is the root
abbrev pub root_named_of : List Held → List ℕ
root_named_of [] = []
root_named_of (h ∷ hs) = cond (same_text_of h.name builtins) (h.place ∷ []) []

abbrev pub own_surplus : Own → List ℕ
own_surplus o =
    surplus_declared_of (declarations o.classes o.functions o.attributes) ++ surplus_uses (collected o.classes o.functions o.attributes)

-- the places at which some file of the model bs holds too much
abbrev pub files_surplus_of : List ℕ → List File → List ℕ
files_surplus_of bs [] = []
files_surplus_of bs (f ∷ fs) = own_surplus (own_in bs f) ++ files_surplus_of bs fs

abbrev pub file_place : File → ℕ
file_place f = f.place

abbrev pub surplus_in : List ℕ → List File → List ℕ
surplus_in bs fs = drop modules_allowed (map file_place fs) ++ files_surplus_of bs fs

abbrev pub verdict_by : List ℕ → Gathered → Verdict
verdict_by bs g =
    refused_at 3 (soonest (least (root_named_of g.siblings)) g.found.names) (refused_at 4 g.found.values (refused_at 5 (least (repeated_siblings g.siblings)) (refused_at 6 g.found.empty (refused_at 7 (least (surplus_in bs g.files)) accepted))))

-- whether what was gathered breaks a rule
abbrev pub Checks : List ℕ → Gathered → Result (Unit {0}) Refusal → Type 0
Checks bs g (Ok x) = verdict_by bs g ≡ accepted
Checks bs g (Err f) = Says (verdict_by bs g) f

-- the files of a model in short; none where it is none
abbrev pub files_of : Out Module → List File
files_of (read m r) = entries m 0 None
files_of (fault p) = []

-- what judging a model answers: its files where it is accepted, or the refusal that the rules give
abbrev pub Judges : List ℕ → Result (Vec File Global) Refusal → Type 0
Judges bs (Ok files) = (verdict bs ≡ accepted) × (vec_items files ≡ files_of (model bs))
Judges bs (Err f) = Says (verdict bs) f
