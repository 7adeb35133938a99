-- The tests on names tell what the rules on names say.
use Rattle.std.proofs.Common.{◌≡◌, ℕ, ◌≤◌, Bool, true, not, ◌&&◌, eqb, leb, List, [], ◌∷◌, ◌++◌, length, Decides, Contains, sym, refl, ap, ◌∙◌, subst, inl, inr, append_assoc, arith}
use Rattle.std.specs.List.{AllByRecursion}
use mathlib.Core.Bool.{false≢true}
use Rattle.std.specs.Int.{IsInRange}
use Rattle.std.specs.Str.{bytes_eq}
use Rattle.std.proofs.lemmas.List.Elements.{All-from_recursion, recursion_from_All, Decides-contains}
use Rattle.text.proofs.Each.{each_weaker}
use Rattle.std.proofs.lemmas.Slice.Eq.{bytes_eq-Decides}
use Rattle.std.proofs.lemmas.List.{append-nil}
use Rattle.std.proofs.lemmas.Bool.{and_from, and_parts, cases_Bool, eqb-true, leb-true, le-leb, ne_eqb}
use Rattle.std.proofs.lemmas.Bool.Decides.{Decides-and, Decides-or, Decides-not, Decides-eqb, Decides-by_and, Decides-by_or, Decides-like}
use Rattle.text.specs.Names.{within, letter, digit, first_byte, later_byte, every, spelled, keywords, among, keyword, identifier, parts, dotted, joined_by_dots}
use Rattle.text.specs.Names.{Letter, Digit, FirstByte, LaterByte, Identifier, Dotted}

-- classes of bytes

decides_leb : (m n : ℕ) → Decides (leb m n) (m ≤ n)
decides_leb m n = (leb-true m n, le-leb m n)

pub within-Decides : (low high b : ℕ) → Decides (within low high b) (IsInRange low high b)
within-Decides low high b = Decides-and (leb low b) (leb b high) (decides_leb low b) (decides_leb b high)

pub digit-Decides : (b : ℕ) → Decides (digit b) (Digit b)
digit-Decides b = within-Decides 48 57 b

pub letter-Decides : (b : ℕ) → Decides (letter b) (Letter b)
letter-Decides b = Decides-or (within 97 122 b) (within 65 90 b) (within-Decides 97 122 b) (within-Decides 65 90 b)

pub first_byte-Decides : (b : ℕ) → Decides (first_byte b) (FirstByte b)
first_byte-Decides b = Decides-or (letter b) (eqb b 95) (letter-Decides b) (Decides-eqb b 95)

pub later_byte-Decides : (b : ℕ) → Decides (later_byte b) (LaterByte b)
later_byte-Decides b = Decides-or (first_byte b) (digit b) (first_byte-Decides b) (digit-Decides b)

pub every-Decides : (test : ℕ → Bool) (P : ℕ → Type 0) → ((b : ℕ) → Decides (test b) (P b)) → (s : List ℕ) → Decides (every test s) (AllByRecursion P s)
every-Decides test P each s =
    Decides-like (every test s) (recursion_from_All P s) (All-from_recursion P s) (Decides-by_and test P (every test) each refl (λ _ _. refl) s)

-- identifiers

pub keyword-Decides : (s : List ℕ) → Decides (keyword s) (Contains keywords s)
unfolding keyword
keyword-Decides s =
    Decides-contains keywords s (among keywords s) (Decides-by_or (λ w. bytes_eq w s) (λ w. w ≡ s) (λ ws. among ws s) (λ w. bytes_eq-Decides w s) refl (λ _ _. refl) keywords)

record Spelled (s : List ℕ) : Type 0 where
  first : ℕ
  later : List ℕ
  is : s ≡ first ∷ later
  starts : FirstByte first
  goes_on : AllByRecursion LaterByte later

spelled-Decides : (s : List ℕ) → Decides (spelled s) (Spelled s)
spelled-Decides [] = (λ e. absurd (false≢true e), λ p. absurd (omega (arith, ap length p.is)))
spelled-Decides (b ∷ bs) =
    Decides-like (first_byte b && every later_byte bs)
    (λ p. record { first = b; later = bs; is = refl; starts = p.0; goes_on = p.1 })
    (λ p. let e : p.first ≡ b = cc p.is in let f : p.later ≡ bs = cc p.is in (subst FirstByte e p.starts, subst (AllByRecursion LaterByte) f p.goes_on))
    (Decides-and (first_byte b) (every later_byte bs) (first_byte-Decides b) (every-Decides later_byte LaterByte later_byte-Decides bs))

pub identifier-Decides : (s : List ℕ) → Decides (identifier s) (Identifier s)
unfolding identifier
identifier-Decides s =
    Decides-like (leb (length s) 64 && spelled s && not (keyword s))
    (λ p. record { first = p.0.1.first; later = p.0.1.later; is = p.0.1.is; starts = p.0.1.starts; goes_on = p.0.1.goes_on; short = p.0.0; not_reserved = p.1 })
    (λ p. ((p.short, record { first = p.first; later = p.later; is = p.is; starts = p.starts; goes_on = p.goes_on }), p.not_reserved))
    (Decides-and (leb (length s) 64 && spelled s) (not (keyword s))
    (Decides-and (leb (length s) 64) (spelled s) (decides_leb (length s) 64) (spelled-Decides s))
    (Decides-not (keyword s) (keyword-Decides s)))

-- names with dots

later_no_dot : (b : ℕ) → LaterByte b → b ≡ 46 → ⊥
later_no_dot b (inl (inl (inl p))) e = omega arith
later_no_dot b (inl (inl (inr p))) e = omega arith
later_no_dot b (inl (inr p)) e = omega arith
later_no_dot b (inr p) e = omega arith

pub no_dots : (s : List ℕ) → Identifier s → AllByRecursion (λ b. b ≡ 46 → ⊥) s
no_dots s p =
    subst (AllByRecursion (λ b. b ≡ 46 → ⊥)) (sym p.is)
    (later_no_dot p.first (inl p.starts), each_weaker LaterByte (λ b. b ≡ 46 → ⊥) later_no_dot p.later p.goes_on)

record Joined (s : List ℕ) : Type 0 where
  name : List ℕ
  more : List (List ℕ)
  is : s ≡ joined_by_dots name more
  identifiers : AllByRecursion Identifier (name ∷ more)

joined_from_parts : (part s : List ℕ) → parts part s ≡ true → Joined (part ++ s)
joined_from_parts part [] e = record { name = part; more = []; is = append-nil part; identifiers = ((identifier-Decides part).0 e, tt) }
joined_from_parts part (b ∷ bs) e =
    elim (cases_Bool (eqb b 46)) [
      | inl t ↦
          (let both : (identifier part && parts [] bs) ≡ true = rw t at e in
          let h = and_parts (identifier part) (parts [] bs) both in
          let j : Joined bs = joined_from_parts [] bs h.1 in
          record {
            name = part;
            more = j.name ∷ j.more;
            is = ap (λ x. part ++ x ∷ bs) (eqb-true b 46 t) ∙ ap (λ x. part ++ 46 ∷ x) j.is;
            identifiers = ((identifier-Decides part).0 h.0, j.identifiers);
          })
      | inr t ↦ (let on : parts (part ++ b ∷ []) bs ≡ true = rw t at e in
          subst Joined (append_assoc part (b ∷ []) bs) (joined_from_parts (part ++ b ∷ []) bs on))
    ]

parts-run : (part name s : List ℕ) → AllByRecursion (λ b. b ≡ 46 → ⊥) name → parts part (name ++ s) ≡ parts (part ++ name) s
parts-run part [] s h = ap (λ x. parts x s) (sym (append-nil part))
parts-run part (b ∷ bs) s h =
    rw (ne_eqb b 46 h.0) (parts-run (part ++ b ∷ []) bs s h.1 ∙ ap (λ x. parts x s) (append_assoc part (b ∷ []) bs))

parts-joined : (name : List ℕ) (more : List (List ℕ)) → AllByRecursion Identifier (name ∷ more) → parts [] (joined_by_dots name more) ≡ true
parts-joined name [] h =
    ap (parts []) (sym (append-nil name)) ∙ (parts-run [] name [] (no_dots name h.0) ∙ (identifier-Decides name).1 h.0)
parts-joined name (next ∷ more) h =
    parts-run [] name (46 ∷ joined_by_dots next more) (no_dots name h.0)
    ∙ and_from _ _ ((identifier-Decides name).1 h.0) (parts-joined next more h.1)

pub dotted-Decides : (s : List ℕ) → Decides (dotted s) (Dotted s)
unfolding dotted
dotted-Decides s =
    Decides-like (leb (length s) 255 && parts [] s)
    (λ p. record { name = p.1.name; more = p.1.more; is = p.1.is; identifiers = p.1.identifiers; short = p.0 })
    (λ p. (p.short, record { name = p.name; more = p.more; is = p.is; identifiers = p.identifiers }))
    (Decides-and (leb (length s) 255) (parts [] s) (decides_leb (length s) 255)
    (joined_from_parts [] s, λ j. ap (parts []) j.is ∙ parts-joined j.name j.more j.identifiers))
