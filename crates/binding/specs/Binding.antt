-- The names that a file binds, each to a target: a module and a root attribute of it. Bindings stand in the order in which
-- they are made.
use Rattle.std.specs.Prelude.{ℕ, zero, suc, Bool, true, cond, List, [], ◌∷◌, ◌++◌, map, length, Some, None, Option}
use Rattle.std.specs.Option.{option_map}
use Rattle.model.specs.Tree.{Text}
use Rattle.model.specs.Limits.{same_text_of, same_reference, occurs}
use Rattle.naming.specs.Next.{proposal}
use Rattle.references.specs.References.{Reference, root_of, rest_of}

-- a reference to a root attribute: a module, and an attribute without dots
abbrev pub Target : Type 0
Target = Reference

abbrev pub target_of : Reference → Target
target_of r = (r.0, root_of r.1)

pub record Binding : Type 0 where
  pub name : Text
  pub target : Target

abbrev pub binding : Text → Target → Binding
binding w t = record { name = w; target = t }

-- what a name is bound to
abbrev pub find : List Binding → Text → Option Target
find [] w = None
find (e ∷ b) w = cond (same_text_of w e.name) (Some e.target) (find b w)

-- the name that is bound to a target
abbrev pub name_of : List Binding → Target → Option Text
name_of [] t = None
name_of (e ∷ b) t = cond (same_reference t e.target) (Some e.name) (name_of b t)

-- a name that is free, or bound to this target already, may be taken for it
abbrev pub allows : Option Target → Target → Bool
allows None t = true
allows (Some s) t = same_reference t s

abbrev pub fits : List Binding → Target → Text → Bool
fits b t w = allows (find b w) t

-- Which name a target is to have, by the number of the proposal: the one place that knows how names are formed.
abbrev pub Proposals : Type 0
Proposals = Target → ℕ → Option Text

-- the root, its next name, the next name of that, and so on
abbrev pub by_number : Proposals
by_number t n = proposal t.1 n

-- a proposal that passes, and otherwise the other; none where proposals have come to an end
abbrev pub chosen : Option Text → (Text → Bool) → Option Text → Option Text
chosen None passes other = None
chosen (Some w) passes other = cond (passes w) (Some w) other

abbrev pub added : Option Target → List Binding → Binding → List Binding
added None b e = b ++ e ∷ []
added (Some s) b e = b

-- a name is bound to its target, unless it is so already
abbrev pub bind_to : List Binding → Target → Option Text → Option (List Binding)
bind_to b t None = None
bind_to b t (Some w) = Some (added (find b w) b (binding w t))

module _ (propose : Proposals) where
  -- the first that fits of k proposals from the n-th on
  abbrev pub seek : ℕ → ℕ → List Binding → Target → Option Text
  seek zero n b t = None
  seek (suc k) n b t = chosen (propose t n) (fits b t) (seek k (suc n) b t)

  -- The lowest proposal that fits. One more than there are bindings is enough to look at, since proposals all differ.
  unfoldable pub taken : List Binding → Target → Option Text
  taken b t = seek (suc (length b)) 0 b t

  -- the bindings with that of a target
  abbrev pub step : List Binding → Target → Option (List Binding)
  step b t = bind_to b t (taken b t)

-- the bindings of all references, or the first reference for which there is no name
pub data Taken : Type 0 where
  bound : List Binding → Taken
  exhausted : Reference → Taken

abbrev pub onward : Option (List Binding) → Reference → (List Binding → Taken) → Taken
onward None r more = exhausted r
onward (Some b) r more = more b

module _ (propose : Proposals) where
  -- references are taken in their order
  abbrev pub take_all_of : List Binding → List Reference → Taken
  take_all_of b [] = bound b
  take_all_of b (r ∷ rs) = onward (step propose b (target_of r)) r (λ c. take_all_of c rs)

-- names without those that came before, `seen` being what came before these
abbrev pub once_after_of : List Text → List Text → List Text
once_after_of seen [] = []
once_after_of seen (d ∷ ds) = cond (occurs same_text_of d seen) (once_after_of seen ds) (d ∷ once_after_of (d ∷ seen) ds)

abbrev pub once : List Text → List Text
once ds = once_after_of [] ds

abbrev pub to_own : Text → List Text → List Binding
to_own own ds = map (λ d. binding d (own, d)) ds

-- Each declared name is bound to itself in the own module, and but once where it is declared again.
unfoldable pub declared_by : Text → List Text → List Binding
declared_by own ds = to_own own (once ds)

-- what a reference is written as: the name bound to its root, and the rest of the attribute
abbrev pub local_name : List Binding → Reference → Option Text
local_name b r = option_map (λ w. w ++ rest_of r.1) (name_of b (target_of r))
