-- The files of a tree: their numbers, and what holds of each because it holds of the tree.
use Rattle.std.proofs.Common.{◌≡◌, ℕ, zero, suc, ◌<◌, true, List, [], ◌∷◌, ◌++◌, map, length, get_or, Some, sym, refl, ap, ◌∙◌, subst, arith}
use Rattle.std.specs.List.{AllByRecursion}
use lib.ListN.{length-map}
use Rattle.std.specs.List.{slice_get}
use Rattle.text.proofs.Each.{each-append, each-push, each_weaker}
use Rattle.std.proofs.lemmas.List.{length-append}
use Rattle.std.proofs.lemmas.Option.{slice_get-get_or}
use Rattle.text.specs.Names.{Identifier}
use Rattle.model.specs.Tree.{Text, Module, Modules, pymodule, no_module, add_module}
use Rattle.model.specs.Files.{files, files_in, modules_within, modules_in}
use Rattle.model.specs.Rules.{module_items, modules_items}
use Rattle.rules.specs.Meets.{NameMeets}
use Rattle.paths.specs.Paths.{split, join}
use Rattle.paths.specs.Laws.{NoDot}
use Rattle.paths.proofs.Names.{split-join}
use Rattle.chains.specs.Chains.{chains, chains_in, own_names, packages, has_submodules}
use Rattle.chains.proofs.Reaching.{chains-many}
use Rattle.loaded.specs.Laws.{FileOf}
use Rattle.loaded.proofs.Spelling.{identifier_no_dot}
use Rattle.loaded.proofs.Gathering.{all-front, all-behind}

-- ---- numbers

mutual
  files-many : (m : Module) → length (files m) ≡ modules_within m
  files-many (pymodule p s modules own classes functions attributes) = let below = files_in-many modules in omega arith

  files_in-many : (ms : Modules) → length (files_in ms) ≡ modules_in ms
  files_in-many no_module = refl
  files_in-many (add_module m ms) = omega (arith, length-append (files m) (files_in ms), files-many m, files_in-many ms)

names-many : (m : Module) → length (own_names m) ≡ length (files m)
names-many m = length-map (chains m []) join ∙ chains-many m [] ∙ sym (files-many m)

packages-many : (m : Module) → length (packages m) ≡ length (files m)
packages-many (pymodule p s modules own classes functions attributes) = ap suc (length-map (files_in modules) has_submodules)

pub file_of_lem : (m : Module) (k : ℕ) → k < length (files m) → FileOf m k
file_of_lem m k l = record {
  self = get_or (files m) k m;
  is = slice_get-get_or (files m) k m l;
  own = get_or (own_names m) k [];
  called = slice_get-get_or (own_names m) k [] (omega (arith, names-many m));
  is_package = get_or (packages m) k true;
  flagged = slice_get-get_or (packages m) k true (omega (arith, packages-many m));
}

-- ---- items

abbrev Met : Module → Type 0
Met m = AllByRecursion NameMeets (module_items m)

mutual
  files-meet : (m : Module) → Met m → AllByRecursion Met (files m)
  files-meet (pymodule p s modules own classes functions attributes) h = (h, files_in-meet modules (all-front NameMeets (modules_items modules) _ h.1))

  files_in-meet : (ms : Modules) → AllByRecursion NameMeets (modules_items ms) → AllByRecursion Met (files_in ms)
  files_in-meet no_module h = tt
  files_in-meet (add_module m ms) h =
      each-append Met (files m) (files_in ms) (files-meet m (all-front NameMeets (module_items m) (modules_items ms) h)) (files_in-meet ms (all-behind NameMeets (module_items m) (modules_items ms) h))

all_nth : {A : Type 0} (P : A → Type 0) (xs : List A) (k : ℕ) (x : A) → AllByRecursion P xs → slice_get xs k ≡ Some x → P x
all_nth P [] k x h e = let z : ◌≡◌ {A = ℕ} 0 1 = cc in absurd (omega arith)
all_nth P (y ∷ ys) zero x h e = let same : y ≡ x = cc in subst P same h.0
all_nth P (y ∷ ys) (suc k) x h e = all_nth P ys k x h.1 e

pub file-meets : (m : Module) → Met m → (k : ℕ) (f : FileOf m k) → Met f.self
file-meets m h k f = all_nth Met (files m) k f.self (files-meet m h) f.is

-- ---- chains of names

-- a chain of identifiers, one at least
abbrev Chain : List Text → Type 0
Chain [] = ⊥
Chain (s ∷ ss) = AllByRecursion Identifier (s ∷ ss)

chain_more : (above : List Text) (s : Text) → AllByRecursion Identifier above → Identifier s → Chain (above ++ s ∷ [])
chain_more [] s h k = (k, tt)
chain_more (a ∷ above) s h k = each-push Identifier (a ∷ above) s h k

mutual
  chains-shaped : (m : Module) (above : List Text) → AllByRecursion Identifier above → Met m → AllByRecursion Chain (chains m above)
  chains-shaped (pymodule p s modules own classes functions attributes) above up h =
      (chain_more above s up h.0, chains_in-shaped modules (above ++ s ∷ []) (each-push Identifier above s up h.0) (all-front NameMeets (modules_items modules) _ h.1))

  chains_in-shaped : (ms : Modules) (above : List Text) → AllByRecursion Identifier above → AllByRecursion NameMeets (modules_items ms) → AllByRecursion Chain (chains_in ms above)
  chains_in-shaped no_module above up h = tt
  chains_in-shaped (add_module m ms) above up h =
      each-append Chain (chains m above) (chains_in ms above) (chains-shaped m above up (all-front NameMeets (module_items m) (modules_items ms) h))
      (chains_in-shaped ms above up (all-behind NameMeets (module_items m) (modules_items ms) h))

-- the parts of a joined chain are the chain
split-chain : (c : List Text) → Chain c → split (join c) ≡ c
split-chain [] h = absurd h
split-chain (s ∷ ss) h = let bare = each_weaker Identifier NoDot identifier_no_dot (s ∷ ss) h in split-join s ss bare.0 bare.1

chain-identifiers : (c : List Text) → Chain c → AllByRecursion Identifier c
chain-identifiers [] h = absurd h
chain-identifiers (s ∷ ss) h = h

nth_map : {A B C : Type 0} (f : A → B) (xs : List A) (k : ℕ) (y : B) → slice_get (map f xs) k ≡ Some y → ((x : A) → slice_get xs k ≡ Some x → f x ≡ y → C) → C
nth_map f [] k y e go = let z : ◌≡◌ {A = ℕ} 0 1 = cc in absurd (omega arith)
nth_map f (x ∷ xs) zero y e go = go x refl (cc)
nth_map f (x ∷ xs) (suc k) y e go = nth_map f xs k y e go

module _ (m : Module) (h : Met m) (k : ℕ) (f : FileOf m k) where
  pub own-chain : slice_get (chains m []) k ≡ Some (split f.own)
  own-chain = nth_map join (chains m []) k f.own f.called λ c e same.
      e ∙ ap Some (sym (split-chain c (all_nth Chain (chains m []) k c (chains-shaped m [] tt h) e)) ∙ ap split same)

  pub own-identifiers : AllByRecursion Identifier (split f.own)
  own-identifiers = chain-identifiers (split f.own) (all_nth Chain (chains m []) k (split f.own) (chains-shaped m [] tt h) own-chain)
