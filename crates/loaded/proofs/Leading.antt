-- Each import line leads to its module.
use Rattle.std.proofs.Common.{◌≡◌, Bool, List, Some, filter, subst}
use Rattle.std.specs.List.{AllByRecursion}
use Rattle.text.proofs.Each.{each_weaker}
use Rattle.text.specs.Names.{Dotted}
use Rattle.model.specs.Tree.{Text}
use Rattle.model.specs.Uses.{Use}
use Rattle.paths.specs.Paths.{split, relative_text, read_path, resolve}
use Rattle.paths.proofs.Names.{join-split, no_dot_split}
use Rattle.chains.specs.Chains.{base_of}
use Rattle.chains.specs.Laws.{python_base}
use Rattle.chains.proofs.Leading.{imports-resolve}
use Rattle.references.specs.References.{references}
use Rattle.references.proofs.Listed.{lists_references}
use Rattle.binding.specs.Binding.{Binding, by_number, take_all_of, bound, declared_by}
use Rattle.binding.proofs.Telling.{proposes-by_number}
use Rattle.imports.specs.Lines.{Line, imported, lines_of}
use Rattle.imports.proofs.Grouping.{each-grouped}
use Rattle.imports.proofs.Taking.{kept_all, of_references}
use Rattle.loaded.specs.Laws.{Leads}
use Rattle.loaded.proofs.Spelling.{dotted-some}

target-leads : (own : Text) (is_package : Bool) (target : Text) → Dotted target → Leads own is_package target
target-leads own is_package target h =
    subst (λ name. resolve (python_base (split own) is_package) (read_path (relative_text (base_of name is_package) target)) ≡ Some (split target)) (join-split own)
    (imports-resolve (split own) (no_dot_split own) is_package target (dotted-some target h))

-- the modules of the lines are those of uses
lines-dotted : (own : Text) (ds : List Text) (us : List Use) (b : List Binding) → take_all_of by_number (declared_by own ds) (references us) ≡ bound b
    → AllByRecursion (λ u. Dotted u.from) us → AllByRecursion (λ l. Dotted l.from) (lines_of own b)
lines-dotted own ds us b e h =
    each-grouped Dotted (filter (imported own) b)
    (kept_all by_number proposes-by_number own Dotted ds (references us) b (lists_references us).ascends (of_references Dotted us h) e).each

pub lines-lead : (own : Text) (is_package : Bool) (ds : List Text) (us : List Use) (b : List Binding) → take_all_of by_number (declared_by own ds) (references us) ≡ bound b
    → AllByRecursion (λ u. Dotted u.from) us → AllByRecursion (λ l. Leads own is_package l.from) (lines_of own b)
lines-lead own is_package ds us b e h =
    each_weaker (λ (l : Line). Dotted l.from) (λ l. Leads own is_package l.from) (λ l. target-leads own is_package l.from) (lines_of own b) (lines-dotted own ds us b e h)
