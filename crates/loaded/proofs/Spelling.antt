-- Identifiers and dotted names: their bytes and their parts.
use Rattle.std.proofs.Common.{◌≡◌, ℕ, true, false, not, ◌&&◌, leb, ◌≢◌, List, [], ◌∷◌, ◌++◌, length, sym, refl, ap, ◌∙◌, subst, arith}
use Rattle.std.specs.List.{AllByRecursion}
use Rattle.text.proofs.Each.{each_weaker}
use Rattle.std.proofs.lemmas.Bool.{and_parts, or_left, both_ways}
use Rattle.text.specs.Names.{first_byte, later_byte, digit, every, spelled, keyword, identifier, dotted, joined_by_dots, Identifier, Dotted}
use Rattle.text.proofs.NamesDecided.{identifier-Decides, dotted-Decides}
use Rattle.model.specs.Tree.{Text}
use Rattle.model.specs.Uses.{builtins}
use Rattle.paths.specs.Paths.{split, join_from}
use Rattle.paths.specs.Laws.{NoDot, SomeByte}
use Rattle.paths.proofs.Names.{split-join}
use Rattle.references.specs.References.{root_of}
use Rattle.imports.specs.Laws.{NoSpace, DottedName}

-- ---- identifiers

pub identifier-spelled : (s : Text) → Identifier s → spelled s ≡ true
unfolding identifier
identifier-spelled s h =
    let e : (leb (length s) 64 && spelled s && not (keyword s)) ≡ true = (identifier-Decides s).1 h in
    (and_parts (leb (length s) 64) (spelled s) (and_parts (leb (length s) 64 && spelled s) (not (keyword s)) e).0).1

-- a byte that may not stand in an identifier does not
module _ (c : ℕ) (never : later_byte c ≡ false) where
  later_other : (b : ℕ) → later_byte b ≡ true → b ≢ c
  later_other b h e = both_ways (later_byte c) never (ap later_byte (sym e) ∙ h)

  every_other : (bs : List ℕ) → every later_byte bs ≡ true → AllByRecursion (λ b. b ≢ c) bs
  every_other [] h = tt
  every_other (b ∷ bs) h = let both = and_parts (later_byte b) (every later_byte bs) h in (later_other b both.0, every_other bs both.1)

  spelled_other : (s : Text) → spelled s ≡ true → AllByRecursion (λ b. b ≢ c) s
  spelled_other [] h = tt
  spelled_other (b ∷ bs) h =
      let both = and_parts (first_byte b) (every later_byte bs) h in
      (later_other b (or_left (first_byte b) (digit b) both.0), every_other bs both.1)

pub spelled_no_dot : (s : Text) → spelled s ≡ true → NoDot s
spelled_no_dot s h = spelled_other 46 refl s h

pub identifier_no_dot : (s : Text) → Identifier s → NoDot s
identifier_no_dot s h = spelled_no_dot s (identifier-spelled s h)

identifier_no_space : (s : Text) → Identifier s → NoSpace s
identifier_no_space s h = spelled_other 32 refl s (identifier-spelled s h)

identifier-some : (s : Text) → Identifier s → SomeByte s
identifier-some s h = omega (arith, ap length h.is)

-- ---- dotted names

joined_same : (name : Text) (more : List Text) → joined_by_dots name more ≡ join_from name more
joined_same name [] = refl
joined_same name (next ∷ more) = ap (λ x. name ++ 46 ∷ x) (joined_same next more)

pub dotted-parts : (s : Text) → Dotted s → AllByRecursion Identifier (split s)
dotted-parts s h =
    let bare = each_weaker Identifier NoDot identifier_no_dot (h.name ∷ h.more) h.identifiers in
    subst (AllByRecursion Identifier) (sym (ap split (h.is ∙ joined_same h.name h.more) ∙ split-join h.name h.more bare.0 bare.1)) h.identifiers

pub dotted-root : (s : Text) → Dotted s → Identifier (root_of s)
dotted-root s h = (dotted-parts s h).0

pub dotted-some : (s : Text) → Dotted s → AllByRecursion SomeByte (split s)
dotted-some s h = each_weaker Identifier SomeByte identifier-some (split s) (dotted-parts s h)

pub dotted-name : (s : Text) → Dotted s → DottedName s
dotted-name s h = (dotted-some s h, each_weaker Identifier NoSpace identifier_no_space (split s) (dotted-parts s h))

pub builtins-dotted : Dotted builtins
unfolding dotted identifier keyword
builtins-dotted = (dotted-Decides builtins).0 refl
