-- Runs that a sink takes, one after another. A sink goes from s to t by a run of lines.
use Rattle.std.proofs.Common.{◌≡◌, ℕ, ◌+◌, ◌<◌, ◌≤◌, List, [], ◌∷◌, ◌++◌, length, get_or, take, Err, sym, ap, ◌∙◌, subst, append_assoc, add-one, arith, map}
use Rattle.std.proofs.lemmas.List.{append-nil, take_more, take_all, get_or-map}
use lib.ListN.{length-map}
use denote.Ref.{Bor}
use Rattle.sink.specs.Sinks.{SinkLaws, Refusing, Took, OfferedAll}

module _ {S : Type 0} (taken : S → List (List ℕ)) (takes : S → List (List ℕ) → Type 0) where
  -- the empty run
  pub took_none : SinkLaws takes → (s : S) → Took taken takes s [] s
  took_none laws s = record { would = laws.none s; grown = sym (append-nil (taken s)); rest = record { to = λ rs p. p; back = λ rs p. p } }

  -- a run, and a further one
  pub took_more : (s t u : S) (ls ms : List (List ℕ)) → Took taken takes s ls t → Took taken takes t ms u → Took taken takes s (ls ++ ms) u
  took_more s t u ls ms a b =
      record {
        would = a.rest.to ms b.would;
        grown = b.grown ∙ ap (λ x. x ++ ms) a.grown ∙ append_assoc (taken s) ls ms;
        rest = record {
          to = λ rs p. subst (takes s) (sym (append_assoc ls ms rs)) (a.rest.to (ms ++ rs) (b.rest.to rs p));
          back = λ rs p. b.rest.back rs (a.rest.back (ms ++ rs) (subst (takes s) (append_assoc ls ms rs) p));
        };
      }

  -- a run, and then a line that is refused
  pub refused-after : (s t u : S) (ls : List (List ℕ)) (line : List ℕ) → Took taken takes s ls t → Refusing (taken t) (takes t) line (taken u) (takes u) → takes s (ls ++ (line ∷ [])) → ⊥
  refused-after s t u ls line a b p = b.would_not (a.rest.back (line ∷ []) p)

  pub took_before : (s t u : S) (ls : List (List ℕ)) (line : List ℕ) → Took taken takes s ls t → Refusing (taken t) (takes t) line (taken u) (takes u) → Took taken takes s ls u
  took_before s t u ls line a b =
      record {
        would = a.would;
        grown = b.same ∙ a.grown;
        rest = record { to = λ rs p. a.rest.to rs (b.rest.to rs p); back = λ rs p. b.rest.back rs (a.rest.back rs p) };
      }

  -- what is refused is refused with more behind it too
  pub never_longer : SinkLaws takes → (s : S) (ls more : List (List ℕ)) → (takes s ls → ⊥) → takes s (ls ++ more) → ⊥
  never_longer laws s ls more n p = n (laws.front s ls more p)

  -- lines offered in turn: i of them are taken, and then the next one is, or is refused
  module _ (s : S) (lines : List (Bor (List ℕ))) (i : ℕ) (h : i < length lines) (d : Bor (List ℕ)) where
    next-run : take (i + 1) (map (λ x. x.now) lines) ≡ take i (map (λ x. x.now) lines) ++ ((get_or lines i d).now ∷ [])
    next-run =
        take_more (map (λ x. x.now) lines) i [] (omega (arith, length-map lines (λ x. x.now))) ∙ ap (λ l. take i (map (λ x. x.now) lines) ++ (l ∷ [])) (get_or-map (λ x. x.now) lines i d [] h)

    pub took_next : (t u : S) → Took taken takes s (take i (map (λ x. x.now) lines)) t → Took taken takes t ((get_or lines i d).now ∷ []) u → Took taken takes s (take (i + 1) (map (λ x. x.now) lines)) u
    took_next t u a b =
        subst (λ r. Took taken takes s r u) (sym next-run) (took_more s t u (take i (map (λ x. x.now) lines)) ((get_or lines i d).now ∷ []) a b)

    pub stopped_next : (t u : S) → Took taken takes s (take i (map (λ x. x.now) lines)) t → Refusing (taken t) (takes t) (get_or lines i d).now (taken u) (takes u) → OfferedAll taken takes s (map (λ x. x.now) lines) (Err (record { taken = i })) u
    stopped_next t u a b =
        (took_before s t u (take i (map (λ x. x.now) lines)) (get_or lines i d).now a b, λ p. refused-after s t u (take i (map (λ x. x.now) lines)) (get_or lines i d).now a b (subst (takes s) (ap (λ n. take n (map (λ x. x.now) lines)) (sym (add-one i)) ∙ next-run) p))

  pub took_all : (s t : S) (lines : List (Bor (List ℕ))) (i : ℕ) → length lines ≤ i → Took taken takes s (take i (map (λ x. x.now) lines)) t → Took taken takes s (map (λ x. x.now) lines) t
  took_all s t lines i h a =
      subst (λ r. Took taken takes s r t) (take_all i (map (λ x. x.now) lines) (omega (arith, length-map lines (λ x. x.now)))) a
