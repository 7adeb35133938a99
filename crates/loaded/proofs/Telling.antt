-- The law of names, put together.
use Rattle.std.proofs.Common.{◌≡◌, ℕ, List, [], map}
use Rattle.std.specs.List.{AllByRecursion}
use Rattle.text.proofs.Each.{each_weaker}
use Rattle.text.specs.Names.{Identifier, Dotted}
use Rattle.model.specs.Tree.{Module}
use Rattle.model.specs.Uses.{Use}
use Rattle.model.specs.Rules.{module_items}
use Rattle.model.specs.Read.{read, model}
use Rattle.model.proofs.Models.{reads_exactly_lem}
use Rattle.rules.specs.Meets.{NameMeets}
use Rattle.chains.specs.Chains.{base_of}
use Rattle.chains.proofs.Reaching.{modules-reached}
use Rattle.imports.specs.Laws.{DottedName}
use Rattle.imports.proofs.Importing.{lines_import_lem}
use Rattle.references.specs.References.{references, root_of, name_of}
use Rattle.references.proofs.Listed.{lists_references}
use Rattle.binding.specs.Binding.{Binding, by_number}
use Rattle.binding.proofs.Telling.{proposes-by_number, names_tell_lem}
use Rattle.resolver.specs.Resolved.{resolved, resolution}
use Rattle.loaded.specs.Laws.{FileOf, collects, declares, Shaped, Worth, NamesOfLoaded}
use Rattle.loaded.proofs.Spelling.{dotted-root, dotted-name}
use Rattle.loaded.proofs.Gathering.{UseShaped, module-refers, module-declares}
use Rattle.loaded.proofs.Filed.{file_of_lem, file-meets, own-chain, own-identifiers}
use Rattle.loaded.proofs.Calling.{all-spelled, all-undotted, has_name, same-front, same_whole}
use Rattle.loaded.proofs.Outcomes.{resolved-bound, outcome}
use Rattle.loaded.proofs.Leading.{lines-lead}

module _ (m : Module) (h : AllByRecursion NameMeets (module_items m)) (k : ℕ) (f : FileOf m k) where
  shaped : Shaped f.own (declares f.self) (collects f.self)
  shaped =
      let us : List Use = collects f.self in
      let refers = module-refers f.self (file-meets m h k f) in
      record {
        modules = each_weaker UseShaped (λ u. Dotted u.from) (λ u d. d.0) us refers;
        attributes = each_weaker UseShaped (λ u. Dotted u.name) (λ u d. d.1) us refers;
        roots = each_weaker UseShaped (λ u. Identifier (root_of u.name)) (λ u d. dotted-root u.name d.1) us refers;
        declared = module-declares f.self (file-meets m h k f);
        called = own-identifiers m h k f;
      }

  worth : (b : List Binding) → resolution f.own (declares f.self) (collects f.self) ≡ resolved b → Worth f.own f.is_package (declares f.self) (collects f.self) b
  worth b e =
      let own = f.own in
      let ds = declares f.self in
      let us = collects f.self in
      let taken = resolved-bound own ds us b e in
      let tells = (names_tell_lem by_number proposes-by_number own (map name_of ds) (references us)).0 b taken in
      let lines = lines_import_lem us (map name_of ds) own (base_of own f.is_package) b taken in
      record {
        tells = tells;
        names = all-spelled own ds us b shaped tells;
        undotted = all-undotted own ds us b shaped tells;
        named = has_name own ds us b shaped tells;
        same = same-front own ds us b shaped tells;
        one = same_whole own ds us b shaped tells;
        imports = lines.0;
        written = lines.1;
        many = lines.1.many (each_weaker (λ u. Dotted u.from) (λ u. DottedName u.from) (λ u. dotted-name u.from) us shaped.modules);
        leads = lines-lead own f.is_package (map name_of ds) us b taken shaped.modules;
      }

pub names_of_loaded_lem : NamesOfLoaded
names_of_loaded_lem bs bytes l = record {
  is = is;
  reached = modules-reached bs bytes l.tree is;
  file = file_of_lem l.tree;
  chain = own-chain l.tree l.meets.names;
  listed = λ k f. lists_references (collects f.self);
  shaped = shaped l.tree l.meets.names;
  outcome = λ k f. outcome f.own (declares f.self) (collects f.self);
  worth = worth l.tree l.meets.names;
}
  where
    is : model bs ≡ read l.tree []
    is = (reads_exactly_lem bs bytes l.tree).1 l.describes
