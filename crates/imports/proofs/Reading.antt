-- A line's module is read off its text.
use Rattle.std.proofs.Common.{◌≡◌, ℕ, zero, suc, ◌-◌, ◌≢◌, List, [], ◌∷◌, ◌++◌, map, length, drop, replicate, Some, codes, sym, refl, ap, ◌∙◌, append_assoc, arith}
use Rattle.std.specs.List.{AllByRecursion}
use Rattle.text.proofs.Each.{each-append, each-drop}
use Rattle.model.specs.Tree.{Text}
use Rattle.paths.specs.Paths.{split, join, join_from, path_text, common, relative_by, relative_text, read_path, resolve}
use Rattle.paths.proofs.Names.{join-split}
use Rattle.paths.proofs.Leads.{texts_resolve_lem}
use Rattle.imports.specs.Lines.{Line, imports_text, line_text}
use Rattle.imports.specs.Laws.{NoSpace, DottedName, LinesTell, Apart}

-- a path has no space

no_space_dots : (n : ℕ) → NoSpace (replicate n 46)
no_space_dots zero = tt
no_space_dots (suc n) = ((λ e. omega arith), no_space_dots n)

no_space_from : (p : Text) (ps : List Text) → NoSpace p → AllByRecursion NoSpace ps → NoSpace (join_from p ps)
no_space_from p [] h hs = h
no_space_from p (q ∷ qs) h hs = each-append (λ c. c ≢ 32) p (46 ∷ join_from q qs) h ((λ e. omega arith), no_space_from q qs hs.0 hs.1)

no_space_join : (ps : List Text) → AllByRecursion NoSpace ps → NoSpace (join ps)
no_space_join [] hs = tt
no_space_join (p ∷ ps) hs = no_space_from p ps hs.0 hs.1

no_space_by : (k : ℕ) (base target : List Text) → AllByRecursion NoSpace target → NoSpace (path_text (relative_by k base target))
no_space_by zero base target h = no_space_join target h
no_space_by (suc k) base target h =
    each-append (λ c. c ≢ 32) (replicate (suc (length base - suc k)) 46) (join (drop (suc k) target)) (no_space_dots (suc (length base - suc k)))
    (no_space_join (drop (suc k) target) (each-drop NoSpace (suc k) target h))

no_space_path : (base m : Text) → DottedName m → NoSpace (relative_text base m)
unfolding relative_text
no_space_path base m h = no_space_by (common (split base) (split m)) (split base) (split m) h.1

-- so it ends at the first space
cut : (p q x y : Text) → NoSpace p → NoSpace q → p ++ 32 ∷ x ≡ q ++ 32 ∷ y → p ≡ q
cut [] [] x y h k e = refl
cut [] (c ∷ q) x y h k e = let z : c ≡ 32 = cc in absurd (k.0 z)
cut (c ∷ p) [] x y h k e = let z : c ≡ 32 = cc in absurd (h.0 z)
cut (c ∷ p) (d ∷ q) x y h k e =
    let first : c ≡ d = cc in
    let rest : p ++ 32 ∷ x ≡ q ++ 32 ∷ y = cc in
    let more = cut p q x y h.1 k.1 rest in
    cc

-- and leads to one module
path-tells : (base m n : Text) → DottedName m → DottedName n → relative_text base m ≡ relative_text base n → m ≡ n
path-tells base m n h k e =
    let both : Some (split m) ≡ Some (split n) = sym (texts_resolve_lem base m h.0) ∙ ap (λ t. resolve (split base) (read_path t)) e ∙ texts_resolve_lem base n k.0 in
    let parts : split m ≡ split n = cc in
    sym (join-split m) ∙ ap join parts ∙ join-split n

pub lines_tell_lem : LinesTell
lines_tell_lem base l k h g e =
    let l_is = append_assoc (relative_text base l.from) (codes " import ") (imports_text l.imports) in
    let k_is = append_assoc (relative_text base k.from) (codes " import ") (imports_text k.imports) in
    path-tells base l.from k.from h g
    (cut (relative_text base l.from) (relative_text base k.from) (codes "import " ++ imports_text l.imports) (codes "import " ++ imports_text k.imports)
    (no_space_path base l.from h) (no_space_path base k.from g) (sym l_is ∙ ap (drop 5) e ∙ k_is))

-- lines of different modules have different texts

module _ (base : Text) where
  all-differ : (l : Line) (ks : List Line) → DottedName l.from → AllByRecursion (λ k. DottedName k.from) ks → AllByRecursion (λ y. l.from ≢ y) (map (λ k. k.from) ks)
      → AllByRecursion (λ y. line_text base l ≢ y) (map (line_text base) ks)
  all-differ l [] h hs apart = tt
  all-differ l (k ∷ ks) h hs apart = ((λ e. apart.0 (lines_tell_lem base l k h hs.0 e)), all-differ l ks h hs.1 apart.1)

  pub texts_apart : (ls : List Line) → AllByRecursion (λ l. DottedName l.from) ls → Apart (map (λ l. l.from) ls) → Apart (map (line_text base) ls)
  texts_apart [] hs apart = tt
  texts_apart (l ∷ ls) hs apart = (all-differ l ls hs.0 hs.1 apart.0, texts_apart ls hs.1 apart.1)
