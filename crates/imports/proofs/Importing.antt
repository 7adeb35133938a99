-- What the import lines are worth.
use Rattle.std.proofs.Common.{◌≡◌, List, [], ◌∷◌, map, length, filter, ◌∙◌}
use Rattle.std.specs.List.{AllByRecursion}
use lib.ListN.{length-map}
use Rattle.model.specs.Tree.{Text}
use Rattle.model.specs.Uses.{Use}
use Rattle.references.specs.References.{references}
use Rattle.references.proofs.Listed.{lists_references}
use Rattle.binding.specs.Binding.{Binding, by_number, take_all_of, bound, declared_by}
use Rattle.binding.proofs.Telling.{proposes-by_number}
use Rattle.imports.specs.Lines.{imported, lines_of, line_text, import_lines_of}
use Rattle.imports.specs.Laws.{Imports, DottedName, Written, LinesImport, Apart}
use Rattle.imports.proofs.Texts.{ascends-sorted, members-sorted, length-sorted}
use Rattle.imports.proofs.Grouping.{all-grouped, some-grouped, each-grouped, sorted-grouped, apart-sorted, times-grouped}
use Rattle.imports.proofs.Taking.{Kept, kept_all, of_references}
use Rattle.imports.proofs.Reading.{texts_apart}

abbrev Any : Text → Type 0
Any m = Unit {0}

all_any : (us : List Use) → AllByRecursion (λ u. Any u.from) us
all_any [] = tt
all_any (u ∷ us) = (tt, all_any us)

module _ (us : List Use) (ds : List Text) (own base : Text) (b : List Binding) (e : take_all_of by_number (declared_by own ds) (references us) ≡ bound b) where
  kept : (P : Text → Type 0) → AllByRecursion (λ u. P u.from) us → Kept by_number proposes-by_number own P b []
  kept P h = kept_all by_number proposes-by_number own P ds (references us) b (lists_references us).ascends (of_references P us h) e

  apart : Apart (map (λ l. l.from) (lines_of own b))
  apart = apart-sorted (map (λ l. l.from) (lines_of own b)) (sorted-grouped (filter (imported own) b) (kept Any (all_any us)).rises)

  imports : Imports own b (lines_of own b)
  imports = record {
    all = all-grouped (filter (imported own) b);
    some = some-grouped (filter (imported own) b);
    apart = apart;
    counts = λ t. times-grouped t (filter (imported own) b) ∙ (kept Any (all_any us)).counts t;
  }

  many : AllByRecursion (λ u. DottedName u.from) us → length (import_lines_of own base b) ≡ length (lines_of own b)
  unfolding import_lines_of
  many h =
      length-sorted (map (line_text base) (lines_of own b))
      (texts_apart base (lines_of own b) (each-grouped DottedName (filter (imported own) b) (kept DottedName h).each) apart)
      ∙ length-map (lines_of own b) (line_text base)

  written : Written own base us b
  unfolding import_lines_of
  written = record {
    ascends = ascends-sorted (map (line_text base) (lines_of own b));
    members = members-sorted (map (line_text base) (lines_of own b));
    many = many;
  }

pub lines_import_lem : LinesImport
lines_import_lem us ds own base b e = (imports us ds own base b e, written us ds own base b e)
