-- The dotted name of a file, one holder up.
use Rattle.std.proofs.Common.{◌≡◌, ℕ, zero, suc, ◌-◌, ◌≤◌, List, [], ◌∷◌, ◌++◌, length, Some, None, Option, sym, refl, ap, ◌∙◌, arith}
use Rattle.std.specs.List.{slice_get}
use Rattle.std.proofs.lemmas.List.{append-nil, append_assoc}
use Rattle.std.proofs.lemmas.Option.{slice_get_past}
use Rattle.model.specs.declared.files.File.{File}
use Rattle.chains.specs.Chains.{before, name_of, named_in, own_in}

pub own-opened : (bs : List ℕ) (files : List File) (d k : ℕ) → (d ≡ 0 → ⊥) → own_in bs files d k ≡ named_in bs (slice_get files k) (own_in bs files (d - 1))
unfolding own_in
own-opened bs files zero k z = absurd (z refl)
own-opened bs files (suc d) k z = let e : suc d - 1 ≡ d = omega arith in rw e refl

pub own-zero : (bs : List ℕ) (files : List File) (d k : ℕ) → d ≡ 0 → own_in bs files d k ≡ []
unfolding own_in
own-zero bs files zero k z = refl
own-zero bs files (suc d) k z = absurd (omega arith)

pub own_missing : (bs : List ℕ) (files : List File) (d k : ℕ) → slice_get files k ≡ None → own_in bs files d k ≡ []
unfolding own_in
own_missing bs files zero k e = refl
own_missing bs files (suc d) k e = ap (λ o. named_in bs o (own_in bs files d)) e

pub own_past : (bs : List ℕ) (files : List File) (d k : ℕ) → length files ≤ k → own_in bs files d k ≡ []
own_past bs files d k l = own_missing bs files d k (slice_get_past files k l)

pub own_at : (bs : List ℕ) (files : List File) (d k : ℕ) (f : File) → (d ≡ 0 → ⊥) → slice_get files k ≡ Some f → own_in bs files d k ≡ before f.holder (own_in bs files (d - 1)) ++ name_of bs f
own_at bs files d k f z e = own-opened bs files d k z ∙ ap (λ o. named_in bs o (own_in bs files (d - 1))) e

-- what the calls append

pub adds_none : (was own : List ℕ) → own ≡ [] → was ≡ was ++ own
adds_none was own e = sym (append-nil was) ∙ ap (λ x. was ++ x) (sym e)

pub held-before : (bs : List ℕ) (files : List File) (d h : ℕ) (o : Option ℕ) (was one dotted : List ℕ) → o ≡ Some h → one ≡ was ++ own_in bs files d h → dotted ≡ one ++ 46 ∷ [] → dotted ≡ was ++ before o (own_in bs files d)
held-before bs files d h o was one dotted e p q =
    q ∙ (ap (λ x. x ++ 46 ∷ []) p ∙ (append_assoc was (own_in bs files d h) (46 ∷ []) ∙ ap (λ x. was ++ before x (own_in bs files d)) (sym e)))

pub none_before : (bs : List ℕ) (files : List File) (d : ℕ) (o : Option ℕ) (was dotted : List ℕ) → o ≡ None → dotted ≡ was → dotted ≡ was ++ before o (own_in bs files d)
none_before bs files d o was dotted e p = p ∙ adds_none was (before o (own_in bs files d)) (ap (λ x. before x (own_in bs files d)) e)

pub adds_name : (bs : List ℕ) (files : List File) (d k : ℕ) (f : File) (was dotted name after : List ℕ) → (d ≡ 0 → ⊥) → slice_get files k ≡ Some f → dotted ≡ was ++ before f.holder (own_in bs files (d - 1)) → name ≡ name_of bs f → after ≡ dotted ++ name → after ≡ was ++ own_in bs files d k
adds_name bs files d k f was dotted name after z e p n q =
    q ∙ ((λ i. p i ++ n i) ∙ (append_assoc was _ (name_of bs f) ∙ ap (λ x. was ++ x) (sym (own_at bs files d k f z e))))
