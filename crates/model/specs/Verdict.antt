-- The verdict on a model: accepted, or refused by a number at a place. The rules are judged in the order of their numbers, each
-- over the whole model, and the place is the least at which the first number that shows does show.
use Rattle.std.specs.Prelude.{ℕ, cond, List, [], ◌∷◌, ◌++◌, map, length, drop, Some, None, Option, ◌==◌, nat_lt}
use Rattle.model.specs.Tree.{Text, Module, pymodule}
use Rattle.model.specs.Read.{Out, read, fault, model}
use Rattle.model.specs.Rules.{module_items, broken_name, broken_value, empty_attribute, places_of, least}
use Rattle.model.specs.Files.{files, helds}
use Rattle.model.specs.Uses.{builtins, collected, declarations}
use Rattle.model.specs.Limits.{same_text_of, repeated_siblings, surplus_uses, surplus_declared_of}

pub data Verdict : Type 0 where
  accepted : Verdict
  refused : ℕ → ℕ → Verdict

abbrev pub module_place : Module → ℕ
module_place (pymodule p s modules own classes functions attributes) = p

abbrev pub module_name : Module → Text
module_name (pymodule p s modules own classes functions attributes) = s

-- 3: names; the root is not called builtins
abbrev pub root_name : Module → List ℕ
root_name m = cond (same_text_of (module_name m) builtins) (module_place m ∷ []) []

abbrev pub broken_names : Module → List ℕ
broken_names m = root_name m ++ places_of broken_name (module_items m)

-- 4: numbers and strings
abbrev pub broken_values : Module → List ℕ
broken_values m = places_of broken_value (module_items m)

-- 5: two sibling modules of one name, at the later
abbrev pub repeated_modules : Module → List ℕ
repeated_modules m = repeated_siblings (helds m 0 None)

-- 6: attributes with neither annotation nor value
abbrev pub empty_attributes : Module → List ℕ
empty_attributes m = places_of empty_attribute (module_items m)

-- 7: at most so many modules, and in each file not too many distinct names and references
abbrev pub modules_allowed : ℕ
modules_allowed = 128

abbrev pub surplus_modules : Module → List ℕ
surplus_modules m = drop modules_allowed (map module_place (files m))

abbrev pub surplus_in_file : Module → List ℕ
surplus_in_file (pymodule p s modules own classes functions attributes) =
    surplus_declared_of (declarations classes functions attributes) ++ surplus_uses (collected classes functions attributes)

abbrev pub surplus_in_files : List Module → List ℕ
surplus_in_files [] = []
surplus_in_files (m ∷ ms) = surplus_in_file m ++ surplus_in_files ms

abbrev pub surplus : Module → List ℕ
surplus m = surplus_modules m ++ surplus_in_files (files m)

-- the least of these places with this number, and otherwise the other
abbrev pub refused_at : ℕ → Option ℕ → Verdict → Verdict
refused_at number None other = other
refused_at number (Some p) other = refused number p

abbrev pub judged : Module → Verdict
judged m =
    refused_at 3 (least (broken_names m)) (refused_at 4 (least (broken_values m)) (refused_at 5 (least (repeated_modules m)) (refused_at 6 (least (empty_attributes m)) (refused_at 7 (least (surplus m)) accepted))))

abbrev pub judged_out : Out Module → Verdict
judged_out (read m bs) = judged m
judged_out (fault p) = refused 2 p

-- a model has at least one byte and at most so many
abbrev pub longest_allowed : ℕ
longest_allowed = 16384

abbrev pub verdict : List ℕ → Verdict
verdict bs =
    cond (length bs == 0) (refused 1 0) (cond (nat_lt longest_allowed (length bs)) (refused 1 0) (judged_out (model bs)))
