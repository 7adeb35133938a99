-- The list of files in short is as long as the list of files.
use Rattle.std.proofs.Common.{◌≡◌, ℕ, List, [], ◌∷◌, length, None, Ok, Result, sym, refl, ap, ◌∙◌}
use lib.ListN.{length-map}
use Rattle.model.specs.declared.files.File.{File}
use Rattle.model.specs.Tree.{Module}
use Rattle.model.specs.Read.{Out, read, fault, model}
use Rattle.model.specs.Files.{files, entries}
use Rattle.model.specs.Verdict.{module_place}
use Rattle.verdict.specs.Judged.{files_of, file_place}
use Rattle.verdict.proofs.Verdicts.{places_same}
use Rattle.session.specs.declared.fault.Fault.{Fault}
use Rattle.session.specs.Calls.{files_count, count_of}

pub as_many : (m : Module) → length (entries m 0 None) ≡ length (files m)
as_many m = sym (length-map (entries m 0 None) file_place) ∙ ap length (places_same m 0 None) ∙ length-map (files m) module_place

counted : (o : Out Module) → length (files_of o) ≡ files_count o
counted (read m r) = as_many m
counted (fault p) = refl

pub counts : (bs : List ℕ) (fs : List File) (n : ℕ) → (length bs ≡ 0 → ⊥) → fs ≡ files_of (model bs) → n ≡ length fs → ◌≡◌ {A = Result ℕ Fault} (Ok n) (count_of bs)
counts [] fs n z f e = absurd (z refl)
counts (b ∷ bs) fs n z f e = ap Ok (e ∙ ap length f ∙ counted (model (b ∷ bs)))
