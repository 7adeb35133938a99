-- What the binder keeps true of its indexes, and what a step of it leaves.
use Rattle.std.specs.Prelude.{◌≡◌, ℕ, zero, suc, ◌+◌, ◌<◌, ◌≤◌, true, not, ◌||◌, List, [], ◌∷◌, ◌++◌, length, is_some, IfSome, Some, None, vec_items, Option, Vec}
use Rattle.std.specs.List.{AllByRecursion}
use Rattle.std.specs.declared.cmp.Ordering.{Ordering}
use Rattle.std.specs.Borrow.{Bor}
use Rattle.std.specs.declared.alloc.Global.{Global}
use Rattle.std.specs.Ordering.{nat_cmp}
use Rattle.std.specs.Cmp.{IsTotalOrder, nat_cmp_total, on_total}
use Rattle.std.specs.Cmp.Lexicographic.{slice_cmp, lists_total}
use Rattle.std.specs.BTreeMap as tree
use Rattle.std.specs.BTreeSet as bag
use Rattle.model.specs.Tree.{Text}
use Rattle.naming.specs.Next.{next_name, following, proposal}
use Rattle.model.specs.declared.uses.Reference.{Reference as ReferenceOf}
use Rattle.references.specs.References.{pair_of}
use Rattle.references.specs.Kept.{text_cmp, reference_cmp}
use Rattle.binding.specs.declared.name.Name.{Name}
use Rattle.binding.specs.declared.name.Name.TheVariants.{Model, Alias}
use Rattle.binding.specs.declared.name.Part.{Part}
use Rattle.binding.specs.declared.name.Proposal.{Proposal}
use Rattle.binding.specs.declared.binder.Binder.{Binder}
use Rattle.binding.specs.Binding.{Binding, binding, Target, by_number, find, name_of, chosen, step, declared_by}
use Rattle.binding.specs.Held.{text_of, bindings_of}
use Rattle.binding.specs.Laws.{Lawful}

-- aliases as keys go by their bytes, as the other names do
abbrev pub alias_cmp : Vec ℕ Global → Vec ℕ Global → Ordering
alias_cmp x y = slice_cmp nat_cmp (vec_items x) (vec_items y)

abbrev pub by_vectors : IsTotalOrder alias_cmp
by_vectors = on_total (λ (x : Vec ℕ Global). vec_items x) (lists_total nat_cmp_total)

abbrev pub pool_of : Binder → List ℕ
pool_of s = vec_items s.pool

abbrev pub bindings_in : Binder → List Binding
bindings_in s = bindings_of (pool_of s) (vec_items s.entries)

-- a name that lies in a pool of n bytes, or in the model
abbrev pub Within : ℕ → Name → Type 0
Within n (Model s) = Unit {0}
Within n (Alias p) = p.start + p.len ≤ n

-- the code's name, if it has one, is the one that is meant
abbrev pub Shows : List ℕ → Option Name → Option Text → Type 0
Shows pool None None = Unit {0}
Shows pool None (Some w) = ⊥
Shows pool (Some n) None = ⊥
Shows pool (Some n) (Some w) = (text_of pool n ≡ w) × Within (length pool) n

-- a proposal that is there and is bound
abbrev pub Bounded : List Binding → Option Text → Type 0
Bounded b None = ⊥
Bounded b (Some w) = is_some (find b w) ≡ true

-- w is proposal n for a root, and all up to it are bound
pub record Reached (b : List Binding) (root w : Text) (n : ℕ) : Type 0 where
  pub is : proposal root n ≡ Some w
  pub upto : (i : ℕ) → i ≤ n → Bounded b (proposal root i)

-- w is proposal n for a root, and all before it are bound
pub record Comes (b : List Binding) (root w : Text) (n : ℕ) : Type 0 where
  pub is : proposal root n ≡ Some w
  pub below : (i : ℕ) → i < n → Bounded b (proposal root i)

-- where the search goes on for a root
pub record Started (pool : List ℕ) (b : List Binding) (root : Text) (l : Proposal Part) : Type 0 where
  pub reached : Reached b root (text_of pool (Alias l.name)) l.number
  pub lies : Within (length pool) (Alias l.name)

pub record Indexed (s : Binder) : Type 0 where
  pub within : AllByRecursion (λ e. Within (length (pool_of s)) e.name) (vec_items s.entries)
  pub targets : tree.IsOrdered reference_cmp s.targets
  pub finds : (q : ReferenceOf) → Shows (pool_of s) (tree.get reference_cmp s.targets q) (name_of (bindings_in s) (pair_of q))
  pub names : bag.IsOrdered text_cmp s.names
  pub aliases : bag.IsOrdered alias_cmp s.aliases
  pub lasts : tree.IsOrdered text_cmp s.lasts
  pub starts : (q : Bor (List ℕ)) → IfSome (tree.get text_cmp s.lasts q) (Started (pool_of s) (bindings_in s) q.now)
  pub taken : (q : Bor (List ℕ)) (v : Vec ℕ Global) → vec_items v ≡ q.now → (bag.contains text_cmp s.names q || bag.contains alias_cmp s.aliases v) ≡ is_some (find (bindings_in s) q.now)

pub record Sound (s : Binder) : Type 0 where
  pub lawful : Lawful by_number (bindings_in s)
  pub indexed : Indexed s

-- what lay in the pool lies there still
abbrev pub Grows : List ℕ → List ℕ → Type 0
Grows before after = (n : Name) → Within (length before) n → (text_of after n ≡ text_of before n) × Within (length after) n

-- one binding more
pub record Enters (s : Binder) (w : Text) (t : Target) (n : Name) (s' : Binder) : Type 0 where
  pub bindings : bindings_in s' ≡ bindings_in s ++ binding w t ∷ []
  pub indexed : Indexed s'
  pub shows : Shows (pool_of s') (Some n) (Some w)
  pub grows : Grows (pool_of s) (pool_of s')

pub record Bound (s : Binder) (t : Target) (n : Name) (s' : Binder) : Type 0 where
  pub steps : step by_number (bindings_in s) t ≡ Some (bindings_in s')
  pub sound : Sound s'
  pub shows : Shows (pool_of s') (Some n) (name_of (bindings_in s') t)
  pub grows : Grows (pool_of s) (pool_of s')

-- a target has its name, or there is none for it
abbrev pub Binds : Binder → Target → Option Name → Binder → Type 0
Binds s t None s' = step by_number (bindings_in s) t ≡ None
Binds s t (Some n) s' = Bound s t n s'

-- the first of k names, from this one on, that is bound to nothing
abbrev pub free_from : ℕ → List Binding → Option Text → Option Text
free_from zero b o = None
free_from (suc k) b o = chosen o (λ w. not (is_some (find b w))) (free_from k b (following o))

-- of n names from the next one on
abbrev pub FreeAlias : List Binding → Text → ℕ → Option (Proposal (Vec ℕ Global)) → Type 0
FreeAlias b root n None = free_from n b (next_name root) ≡ None
FreeAlias b root n (Some p) = (free_from n b (next_name root) ≡ Some (vec_items p.name)) × Comes b root (vec_items p.name) p.number

-- a name that is free is not declared
pub record OnlyDeclared (own : Text) (s : Binder) : Type 0 where
  pub indexed : Indexed s
  pub free : (d : Text) → find (bindings_in s) d ≡ None → name_of (bindings_in s) (own, d) ≡ None

-- one declared name more
pub record DeclaresOne (own : Text) (d : Text) (s s' : Binder) : Type 0 where
  pub more : (ds : List Text) → bindings_in s ≡ declared_by own ds → bindings_in s' ≡ declared_by own (ds ++ d ∷ [])
  pub indexed : Indexed s'

-- the declared names, and nothing else, are bound
pub record Declares (own : Text) (ds : List Text) (s : Binder) : Type 0 where
  pub bindings : bindings_in s ≡ declared_by own ds
  pub indexed : Indexed s
