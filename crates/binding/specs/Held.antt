-- What the code holds of names and bindings, by their texts.
use Rattle.std.specs.Prelude.{ℕ, List, map, take, drop}
use Rattle.model.specs.Tree.{Text}
use Rattle.references.specs.References.{pair_of}
use Rattle.binding.specs.declared.name.Name.{Name}
use Rattle.binding.specs.declared.name.Name.TheVariants.{Model, Alias}
use Rattle.binding.specs.declared.name.Entry.{Entry}
use Rattle.binding.specs.Binding.{Binding, binding}

-- a name is a part of the model, or of the pool
abbrev pub text_of : List ℕ → Name → Text
text_of pool (Model s) = s.now
text_of pool (Alias p) = take p.len (drop p.start pool)

abbrev pub binding_of : List ℕ → Entry → Binding
binding_of pool e = binding (text_of pool e.name) (pair_of e.target)

abbrev pub bindings_of : List ℕ → List Entry → List Binding
bindings_of pool es = map (binding_of pool) es
