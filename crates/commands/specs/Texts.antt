-- The words of the answers and verdicts.
use Rattle.std.specs.Prelude.{ℕ, cond, List, ◌++◌, codes, decimal, ◌==◌, Option, Some, None, Result, Ok, Err}
use Rattle.session.specs.declared.fault.Fault.{Fault}
use Rattle.session.specs.Answers.{told}
use Rattle.commands.specs.declared.serve.Answer.{Answer}
use Rattle.commands.specs.declared.serve.Answer.TheVariants.{Loaded, Count, Unknown}

-- what a refusal's number means
abbrev pub cause_text : ℕ → List ℕ
cause_text number =
    cond (number == 1) (codes "empty or over 16,384 bytes")
    (cond (number == 2) (codes "layout or depth")
    (cond (number == 3) (codes "name")
    (cond (number == 4) (codes "number or string")
    (cond (number == 5) (codes "two sibling modules of one name")
    (cond (number == 6) (codes "attribute with neither annotation nor value")
    (cond (number == 7) (codes "too many modules, names or references")
    (cond (number == 8) (codes "no model") (codes "unknown cause"))))))))

-- what there is to say of a fault, which has a number and a place, or is want of memory
abbrev pub cause_of : Option (ℕ × ℕ) → List ℕ
cause_of (Some x) = cause_text x.0
cause_of None = codes "out of memory"

abbrev pub told_text : Option (ℕ × ℕ) → List ℕ
told_text (Some x) = codes "refused " ++ (decimal x.0 ++ (codes " at " ++ decimal x.1))
told_text None = codes "out of memory"

abbrev pub failure_text : Fault → List ℕ
failure_text f = told_text (told f)

abbrev pub answer_text : Result Answer Fault → List ℕ
answer_text (Ok Loaded) = codes "loaded"
answer_text (Ok (Count files)) = codes "count " ++ decimal files
answer_text (Ok Unknown) = codes "unknown call"
answer_text (Err f) = failure_text f

abbrev pub judged_text : Option (ℕ × ℕ) → List ℕ
judged_text (Some x) = codes "refused " ++ (decimal x.0 ++ (codes " at " ++ (decimal x.1 ++ (codes ": " ++ cause_text x.0))))
judged_text None = codes "not checked: out of memory"

abbrev pub verdict_text : Result ℕ Fault → List ℕ
verdict_text (Ok files) = codes "loaded, " ++ (decimal files ++ codes " files")
verdict_text (Err f) = judged_text (told f)
