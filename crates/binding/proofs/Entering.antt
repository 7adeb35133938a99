-- One binding more, in the list of bindings and in the indexes.
use Rattle.std.proofs.Common.{◌≡◌, ℕ, ◌+◌, ◌≤◌, Bool, true, false, cond, ◌||◌, eqb, List, [], ◌∷◌, ◌++◌, length, take, drop, is_some, IfSome, Some, None, vec_items, Option, Vec, sym, refl, ap, ◌∙◌, subst, arith, length-append, Bor}
use Rattle.std.specs.List.{AllByRecursion}
use Rattle.std.specs.declared.alloc.Global.{Global}
use Rattle.std.proofs.lemmas.Bool.{or_right, eqb-true, eqb-false}
use Rattle.naming.specs.Next.{proposal}
use Rattle.binding.specs.declared.name.Part.{Part}
use Rattle.binding.specs.declared.name.Proposal.{Proposal}
use Rattle.std.specs.Ordering.{eq_by_cmp}
use Rattle.std.specs.Cmp.{eq_by_cmp_equiv}
use Rattle.std.specs.BTreeSet.{BTreeSet}
use Rattle.std.specs.BTreeMap as tree
use Rattle.std.specs.BTreeSet as bag
use Rattle.std.proofs.lemmas.List.{drop-append-le, drop_at, length-drop, map-append, take-append-le, take_all}
use Rattle.model.specs.Tree.{Text}
use Rattle.model.specs.Limits.{same_text_of, same_reference}
use Rattle.model.specs.declared.uses.Reference.{Reference as ReferenceOf}
use Rattle.references.specs.References.{pair_of}
use Rattle.references.specs.Kept.{reference_cmp, text_cmp, by_bytes, by_texts}
use Rattle.references.proofs.Kept.{key_ties}
use Rattle.references.proofs.Ties.{same-is, text-is, text_itself, text_ties}
use Rattle.std.specs.BTreeMap.{BTreeMap}
use Rattle.binding.specs.declared.name.Name.{Name}
use Rattle.binding.specs.declared.name.Name.TheVariants.{Model, Alias}
use Rattle.binding.specs.declared.name.Entry.{Entry}
use Rattle.binding.specs.declared.binder.Binder.{Binder}
use Rattle.binding.specs.Binding.{Binding, binding, Target, find, name_of}
use Rattle.binding.specs.Held.{text_of, binding_of, bindings_of}
use Rattle.binding.specs.Sound.{alias_cmp, by_vectors, pool_of, bindings_in, Within, Shows, Bounded, Comes, Started, Indexed, Grows, Enters}
use Rattle.binding.proofs.Ors.{or_behind, or_grouped, true_or}
use Rattle.binding.proofs.Binds.{or_else, find-more, name-more}

-- ---- the pool grows at its end

cut-grown : (start len : ℕ) (pool more : List ℕ) → start + len ≤ length pool → take len (drop start (pool ++ more)) ≡ take len (drop start pool)
cut-grown start len pool more h =
    ap (take len) (drop-append-le start pool more (omega arith)) ∙ take-append-le len (drop start pool) more (omega (arith, length-drop start pool))

pub pool-grows : (pool more : List ℕ) → Grows pool (pool ++ more)
pool-grows pool more (Model s) h = (refl, tt)
pool-grows pool more (Alias p) h = (cut-grown p.start p.len pool more h, omega (arith, length-append pool more))

bindings-grown : (pool after : List ℕ) → Grows pool after → (es : List Entry) → AllByRecursion (λ e. Within (length pool) e.name) es → bindings_of after es ≡ bindings_of pool es
bindings-grown pool after g [] h = refl
bindings-grown pool after g (e ∷ es) h =
    λ i. binding ((g e.name h.0).0 i) (pair_of e.target) ∷ bindings-grown pool after g es h.1 i

within_grown : (pool after : List ℕ) → Grows pool after → (es : List Entry) → AllByRecursion (λ e. Within (length pool) e.name) es → (e : Entry) → Within (length after) e.name
    → AllByRecursion (λ e. Within (length after) e.name) (es ++ e ∷ [])
within_grown pool after g [] h e k = (k, tt)
within_grown pool after g (x ∷ es) h e k = ((g x.name h.0).1, within_grown pool after g es h.1 e k)

pub shows-grown : (pool after : List ℕ) → Grows pool after → (o : Option Name) (w : Option Text) → Shows pool o w → Shows after o w
shows-grown pool after g None None h = h
shows-grown pool after g None (Some w) h = h
shows-grown pool after g (Some n) None h = h
shows-grown pool after g (Some n) (Some w) h = let x = g n h.1 in (x.0 ∙ h.0, x.1)

-- ---- the indexes

or_none : {A : Type 0} (o : Option A) → or_else o None ≡ o
or_none None = refl
or_none (Some x) = refl

some_else : {A : Type 0} (x : A) (o : Option A) (c : Bool) → is_some (or_else o (cond c (Some x) None)) ≡ (c || is_some o)
some_else x None true = refl
some_else x None false = refl
some_else x (Some y) true = refl
some_else x (Some y) false = refl

find_more_some : (b : List Binding) (w : Text) (t : Target) (x : Text) → is_some (find (b ++ binding w t ∷ []) x) ≡ (same_text_of x w || is_some (find b x))
find_more_some b w t x = ap is_some (find-more b (binding w t) x) ∙ some_else t (find b x) (same_text_of x w)

-- ---- the sets of names

module _ (names : BTreeSet (Bor (List ℕ))) (aliases : BTreeSet (Vec ℕ Global)) where
  pub root-put : (names' : BTreeSet (Bor (List ℕ))) (k : Bor (List ℕ)) → bag.Updates text_cmp names names' k true
      → (q : Bor (List ℕ)) (v : Vec ℕ Global) → vec_items v ≡ q.now
      → (bag.contains text_cmp names' q || bag.contains alias_cmp aliases v) ≡ (same_text_of q.now k.now || (bag.contains text_cmp names q || bag.contains alias_cmp aliases v))
  root-put names' k put q v e =
      ap (λ c. c || bag.contains alias_cmp aliases v) (put.0 q ∙ true_or (eq_by_cmp text_cmp k q) (bag.contains text_cmp names q) ∙ ap (λ c. c || bag.contains text_cmp names q) ((eq_by_cmp_equiv by_bytes).symm k q ∙ text_ties q.now k.now))
      ∙ or_grouped (same_text_of q.now k.now) (bag.contains text_cmp names q) (bag.contains alias_cmp aliases v)

  pub alias_put : (aliases' : BTreeSet (Vec ℕ Global)) (k : Vec ℕ Global) → bag.Updates alias_cmp aliases aliases' k true
      → (q : Bor (List ℕ)) (v : Vec ℕ Global) → vec_items v ≡ q.now
      → (bag.contains text_cmp names q || bag.contains alias_cmp aliases' v) ≡ (same_text_of q.now (vec_items k) || (bag.contains text_cmp names q || bag.contains alias_cmp aliases v))
  alias_put aliases' k put q v e =
      ap (λ c. bag.contains text_cmp names q || c)
      (put.0 v ∙ true_or (eq_by_cmp alias_cmp k v) (bag.contains alias_cmp aliases v) ∙ ap (λ c. c || bag.contains alias_cmp aliases v) ((eq_by_cmp_equiv by_vectors).symm k v ∙ text_ties (vec_items v) (vec_items k) ∙ ap (λ x. same_text_of x (vec_items k)) e))
      ∙ or_behind (bag.contains text_cmp names q) (same_text_of q.now (vec_items k)) (bag.contains alias_cmp aliases v)

bounded_kept : (b : List Binding) (e : Binding) (o : Option Text) → Bounded b o → Bounded (b ++ e ∷ []) o
bounded_kept b e None h = h
bounded_kept b e (Some w) h = find_more_some b e.name e.target w ∙ or_right (same_text_of w e.name) (is_some (find b w)) h

module _ (s s' : Binder) (t : ReferenceOf) (n : Name) (w : Text) (grows : Grows (pool_of s) (pool_of s')) (is : text_of (pool_of s') n ≡ w) (lies : Within (length (pool_of s')) n) (x : Indexed s) (unnamed : name_of (bindings_in s) (pair_of t) ≡ None) where
  finds-more : tree.Updates reference_cmp s.targets s'.targets t (Some n) → bindings_in s' ≡ bindings_in s ++ binding w (pair_of t) ∷ []
      → (q : ReferenceOf) → Shows (pool_of s') (tree.get reference_cmp s'.targets q) (name_of (bindings_in s') (pair_of q))
  finds-more put more q =
      subst (λ b. Shows (pool_of s') (tree.get reference_cmp s'.targets q) (name_of b (pair_of q))) (sym more)
      (subst (λ o. Shows (pool_of s') (tree.get reference_cmp s'.targets q) o) (sym (name-more (bindings_in s) (binding w (pair_of t)) (pair_of q)))
      (subst (λ o. Shows (pool_of s') o (or_else (name_of (bindings_in s) (pair_of q)) (cond (same_reference (pair_of q) (pair_of t)) (Some w) None))) (sym (put.0 q ∙ ap (λ c. cond c (Some n) (tree.get reference_cmp s.targets q)) ((eq_by_cmp_equiv by_texts).symm t q ∙ key_ties q t)))
      (go (same_reference (pair_of q) (pair_of t)) refl)))
    where
      go : (c : Bool) → same_reference (pair_of q) (pair_of t) ≡ c → Shows (pool_of s') (cond c (Some n) (tree.get reference_cmp s.targets q)) (or_else (name_of (bindings_in s) (pair_of q)) (cond c (Some w) None))
      go true e =
          let none : name_of (bindings_in s) (pair_of q) ≡ None = ap (name_of (bindings_in s)) (same-is (pair_of q) (pair_of t) e) ∙ unnamed in
          subst (λ o. Shows (pool_of s') (Some n) (or_else o (Some w))) (sym none) (is, lies)
      go false e =
          subst (λ o. Shows (pool_of s') (tree.get reference_cmp s.targets q) o) (sym (or_none (name_of (bindings_in s) (pair_of q))))
          (shows-grown (pool_of s) (pool_of s') grows (tree.get reference_cmp s.targets q) (name_of (bindings_in s) (pair_of q)) (x.finds q))

  starts_kept : (b : List Binding) (e : Binding) (root : Text) (o : Option (Proposal Part)) → IfSome o (Started (pool_of s) b root) → IfSome o (Started (pool_of s') (b ++ e ∷ []) root)
  starts_kept b e root None h = tt
  starts_kept b e root (Some l) h = record {
    reached = record { is = h.reached.is ∙ ap Some (sym (grows (Alias l.name) h.lies).0); upto = λ i le. bounded_kept b e (proposal root i) (h.reached.upto i le) };
    lies = (grows (Alias l.name) h.lies).1;
  }

  pub enters : vec_items s'.entries ≡ vec_items s.entries ++ record { name = n; target = t } ∷ []
      → tree.Updates reference_cmp s.targets s'.targets t (Some n)
      → tree.IsOrdered reference_cmp s'.targets → bag.IsOrdered text_cmp s'.names → bag.IsOrdered alias_cmp s'.aliases → tree.IsOrdered text_cmp s'.lasts
      → ((q : Bor (List ℕ)) → ((o : Option (Proposal Part)) → IfSome o (Started (pool_of s) (bindings_in s) q.now) → IfSome o (Started (pool_of s') (bindings_in s ++ binding w (pair_of t) ∷ []) q.now)) → IfSome (tree.get text_cmp s'.lasts q) (Started (pool_of s') (bindings_in s ++ binding w (pair_of t) ∷ []) q.now))
      → ((q : Bor (List ℕ)) (v : Vec ℕ Global) → vec_items v ≡ q.now
      → (bag.contains text_cmp s'.names q || bag.contains alias_cmp s'.aliases v) ≡ (same_text_of q.now w || (bag.contains text_cmp s.names q || bag.contains alias_cmp s.aliases v)))
      → Enters s w (pair_of t) n s'
  enters listed put ot on oa ol starts has =
      let e : Entry = record { name = n; target = t } in
      let more : bindings_in s' ≡ bindings_in s ++ binding w (pair_of t) ∷ [] =
      ap (bindings_of (pool_of s')) listed ∙ map-append (binding_of (pool_of s')) (vec_items s.entries) (e ∷ [])
      ∙ (λ i. bindings-grown (pool_of s) (pool_of s') grows (vec_items s.entries) x.within i ++ binding (is i) (pair_of t) ∷ []) in
      record {
        bindings = more;
        indexed = record {
          within = subst (λ es. AllByRecursion (λ e. Within (length (pool_of s')) e.name) es) (sym listed) (within_grown (pool_of s) (pool_of s') grows (vec_items s.entries) x.within e lies);
          targets = ot;
          finds = finds-more put more;
          names = on;
          aliases = oa;
          lasts = ol;
          starts = λ q. subst (λ b. IfSome (tree.get text_cmp s'.lasts q) (Started (pool_of s') b q.now)) (sym more) (starts q (starts_kept (bindings_in s) (binding w (pair_of t)) q.now));
          taken = λ q v same.
              has q v same ∙ ap (λ c. same_text_of q.now w || c) (x.taken q v same) ∙ sym (find_more_some (bindings_in s) w (pair_of t) q.now) ∙ ap (λ b. is_some (find b q.now)) (sym more);
        };
        shows = (is, lies);
        grows = grows;
      }

-- ---- an alias at the pool's end

pub alias_grows : (pool alias after : List ℕ) → after ≡ pool ++ alias → Grows pool after
alias_grows pool alias after e = subst (Grows pool) (sym e) (pool-grows pool alias)

pub alias_is : (pool alias after : List ℕ) (start len : ℕ) → after ≡ pool ++ alias → start ≡ length pool → len ≡ length alias → take len (drop start after) ≡ alias
alias_is pool alias after start len e a b = rw (e, a, b) (ap (take (length alias)) (drop_at pool alias (length pool) refl) ∙ take_all (length alias) alias (omega arith))

pub alias_lies : (pool alias after : List ℕ) (start len : ℕ) → after ≡ pool ++ alias → start ≡ length pool → len ≡ length alias → start + len ≤ length after
alias_lies pool alias after start len e a b = rw e (omega (arith, length-append pool alias))

-- ---- where the search for a root goes on

find_new_some : (b : List Binding) (w : Text) (t : Target) → is_some (find (b ++ binding w t ∷ []) w) ≡ true
find_new_some b w t = find_more_some b w t w ∙ ap (λ c. c || is_some (find b w)) (text_itself w)

pub last_put : (before pool : List ℕ) (b : List Binding) (w : Text) (t : Target) (lasts lasts' : BTreeMap (Bor (List ℕ)) (Proposal Part)) (k : Bor (List ℕ)) (l : Proposal Part)
    → tree.Updates text_cmp lasts lasts' k (Some l)
    → text_of pool (Alias l.name) ≡ w → Within (length pool) (Alias l.name) → Comes b k.now w l.number
    → ((q : Bor (List ℕ)) → IfSome (tree.get text_cmp lasts q) (Started before b q.now))
    → (q : Bor (List ℕ)) → ((o : Option (Proposal Part)) → IfSome o (Started before b q.now) → IfSome o (Started pool (b ++ binding w t ∷ []) q.now))
    → IfSome (tree.get text_cmp lasts' q) (Started pool (b ++ binding w t ∷ []) q.now)
last_put before pool b w t lasts lasts' k l put is lies comes old q kept =
    subst (λ x. IfSome x (Started pool (b ++ binding w t ∷ []) q.now)) (sym (put.0 q ∙ ap (λ c. cond c (Some l) (tree.get text_cmp lasts q)) ((eq_by_cmp_equiv by_bytes).symm k q ∙ text_ties q.now k.now)))
    (go (same_text_of q.now k.now) refl)
  where
    upto : (i : ℕ) → i ≤ l.number → Bounded (b ++ binding w t ∷ []) (proposal k.now i)
    upto i h = at (eqb i l.number) refl
      where
        at : (c : Bool) → eqb i l.number ≡ c → Bounded (b ++ binding w t ∷ []) (proposal k.now i)
        at true e = subst (λ j. Bounded (b ++ binding w t ∷ []) (proposal k.now j)) (sym (eqb-true i l.number e)) (subst (Bounded (b ++ binding w t ∷ [])) (sym comes.is) (find_new_some b w t))
        at false e = let d = eqb-false i l.number e in bounded_kept b (binding w t) (proposal k.now i) (comes.below i (omega arith))

    go : (c : Bool) → same_text_of q.now k.now ≡ c → IfSome (cond c (Some l) (tree.get text_cmp lasts q)) (Started pool (b ++ binding w t ∷ []) q.now)
    go true e = subst (λ root. Started pool (b ++ binding w t ∷ []) root l) (sym (text-is q.now k.now e)) record { reached = record { is = comes.is ∙ ap Some (sym is); upto = upto }; lies = lies }
    go false e = kept (tree.get text_cmp lasts q) (old q)
