-- What so many steps lead to.
use Rattle.std.proofs.Common.{◌≡◌, ℕ, zero, suc, ◌+◌, ◌-◌, ◌<◌, ◌≤◌, Bool, List, [], ◌∷◌, ◌++◌, vec_items, map, Ok, Err, OnOk, Result, refl, inl, inr, ap, ◌∙◌, subst, arith, MutBor}
use Rattle.std.specs.Fn.{Shared}
use Rattle.model.specs.Repeats.{Calls, Repeats as RepeatsUpTo}
use Rattle.walk.specs.Repeats.{Repeats}
use Rattle.walk.specs.Total.{rows, count, listed}
use Rattle.std.proofs.lemmas.Bool.{false≢true}
use Rattle.std.proofs.lemmas.List.{map_push}
use Rattle.walk.specs.Puts.{Gathered, own_put}
use Rattle.model.specs.Steps.{declared_of}
use Rattle.walk.specs.Walks.{Walks, WalksEach, Tells, Owns, left, uses_of, gathered}
use Rattle.std.specs.declared.alloc.AllocError.{AllocError}
use Rattle.model.specs.declared.uses.Declared.{Declared as DeclaredOf}
use Rattle.walk.specs.Collects.{Declares, DeclaresEach}
use Rattle.walk.specs.declared.walker.Walker.{Walker}
use Rattle.walk.specs.declared.collector.Collector.{Collector}
use Rattle.model.specs.Uses.{Use, Declared}

pub declares_made : {F : Type 0} (g : Shared F (MutBor Walker × (ℕ × Unit {0})) (Result DeclaredOf AllocError × (MutBor Walker × Unit {0}))) (f : F) (depth : ℕ) (x y : MutBor Walker) (r : Result DeclaredOf AllocError) (one : DeclaredOf) (s t : Collector) → r ≡ Ok one → g.post f (x, (depth, tt)) (r, (y, tt)) → x.now ≡ s.walker → y.now ≡ t.walker → vec_items t.declared ≡ vec_items s.declared ++ one ∷ [] → Declares g f depth s t
declares_made g f depth x y r one s t e h ex ey ed = record { shown = x; shows = ex; one = one; left = y; met = subst (λ o. g.post f (x, (depth, tt)) (o, (y, tt))) e h; leaves = ey; declared = ed }

pub declares_each : {F : Type 0} (g : Shared F (MutBor Walker × (ℕ × Unit {0})) (Result DeclaredOf AllocError × (MutBor Walker × Unit {0}))) (f : F) (stands : Bool) (n : ℕ) (c0 c1 c2 : Collector) → n ≡ (count stands (left c0.walker)).0 → left c1.walker ≡ (count stands (left c0.walker)).1 → c1.walker.at.end ≡ c0.walker.at.end → gathered c1.walker (vec_items c1.declared) ≡ gathered c0.walker (vec_items c0.declared) → Repeats (Declares g f 64) n c1 c2 → DeclaresEach g f 64 stands c0 c2
declares_each g f stands n c0 c1 c2 en el ee eg r = record { counted = c1; rest = el; state = eg; end = ee; each = subst (λ k. Repeats (Declares g f 64) k c1 c2) en r }

pub repeats_none : {S : Type 0} (step : S → S → Type 0) (n i : ℕ) (s : S) → n ≤ i → Repeats step (n - i) s s
repeats_none step n i s h = let e : n - i ≡ 0 = omega arith in rw e refl

pub repeats_more : {S : Type 0} (step : S → S → Type 0) (n i : ℕ) (s m t : S) → i < n → step s m → Repeats step (n - (i + 1)) m t → Repeats step (n - i) s t
repeats_more step n i s m t h one more = let e : n - i ≡ suc (n - (i + 1)) = omega arith in rw e (m, one, more)

-- from s to t, what `one` reads was read, and put to what was there
abbrev pub Read : {S T X : Type 0} → (S → List ℕ) → (S → ℕ) → (S → T) → (X → T → T) → (List ℕ → X × List ℕ) → S → S → Type 0
Read rest end state put one s t = (rest t ≡ (one (rest s)).1) × (state t ≡ put (one (rest s)).0 (state s)) × (end t ≡ end s)

module _ {S T A L : Type 0} (rest : S → List ℕ) (end : S → ℕ) (state : S → T) (none : L) (more : A → L → L) (one : ℕ → List ℕ → A × List ℕ) (put : A → T → T) (all : L → T → T) where
  pub repeated : ((x : T) → x ≡ all none x) → ((a : A) (l : L) (x : T) → all l (put a x) ≡ all (more a l) x) → (step : S → S → Type 0) → ((s t : S) → step s t → Read rest end state put (one (end s)) s t) → (n e : ℕ) (s t : S) → end s ≡ e → Repeats step n s t → Read rest end state all (rows none more (one e) n) s t
  repeated nothing cons step reads zero e s t same is = (ap rest is, ap state is ∙ nothing (state s), ap end is)
  repeated nothing cons step reads (suc n) e s t same r =
      let m = r.0 in
      let a = reads s m r.1 in
      let b = repeated nothing cons step reads n e m t (a.2 ∙ same) r.2 in
      let at : one (end s) (rest s) ≡ one e (rest s) = ap (λ k. one k (rest s)) same in
      let er : rest m ≡ (one e (rest s)).1 = a.0 ∙ ap (λ o. o.1) at in
      (b.0 ∙ ap (λ x. (rows none more (one e) n x).1) er, b.1 ∙ ((λ i. all (rows none more (one e) n (er i)).0 ((a.1 ∙ ap (λ o. put o.0 (state s)) at) i)) ∙ cons _ _ (state s)), b.2 ∙ a.2)

-- calls of which none fails
all_ok : {S E : Type 0} (call : S → Result (Unit {0}) E → S → Type 0) (n : ℕ) (s t : S) → RepeatsUpTo call n s (Ok tt) t → Repeats (λ s t. call s (Ok tt) t) n s t
all_ok call zero s t p = p.1
all_ok call (suc n) s t (inl p) = absurd (false≢true p.1)
all_ok call (suc n) s t (inr p) = (p.0, p.1, all_ok call n p.0 t p.2)

pub each_walked : {F : Type 0} (g : Shared F (MutBor Walker × Unit {0}) (Result (Unit {0}) AllocError × (MutBor Walker × Unit {0}))) (f : F) (stands : Bool) (n : ℕ) (w0 w1 w2 : Walker) (r : Result (Unit {0}) AllocError) → n ≡ (count stands (left w0)).0 → left w1 ≡ (count stands (left w0)).1 → w1.at.end ≡ w0.at.end → uses_of w1 ≡ uses_of w0 → RepeatsUpTo (Calls g f) n w1 r w2 → OnOk r (WalksEach g f stands w0 w2)
each_walked g f stands n w0 w1 w2 (Ok tt) en el ee eu h = record { counted = w1; rest = el; uses = eu; end = ee; each = subst (λ k. RepeatsUpTo (Calls g f) k w1 (Ok tt) w2) en h }
each_walked g f stands n w0 w1 w2 (Err e) en el ee eu h = tt

-- a walk over items, and one over a list field, which is its count and then as many items
module _ {A L : Type 0} (none : L) (more : A → L → L) (one : ℕ → List ℕ → A × List ℕ) (put : A → List Use → List Use) (all : L → List Use → List Use) (nothing : (x : List Use) → x ≡ all none x) (cons : (a : A) (l : L) (x : List Use) → all l (put a x) ≡ all (more a l) x) {F : Type 0} (g : Shared F (MutBor Walker × Unit {0}) (Result (Unit {0}) AllocError × (MutBor Walker × Unit {0}))) (f : F) (walks : (s t : Walker) → Calls g f s (Ok tt) t → Walks put (one s.at.end) s t) where
  rows_walked : (n : ℕ) (w0 w1 : Walker) → RepeatsUpTo (Calls g f) n w0 (Ok tt) w1 → Walks all (rows none more (one w0.at.end) n) w0 w1
  rows_walked n w0 w1 r =
      let g = repeated left (λ w. w.at.end) uses_of none more one put all nothing cons (λ s t. Calls g f s (Ok tt) t) (λ s t x. let w = walks s t x in (w.rest, w.uses, w.end)) n w0.at.end w0 w1 refl (all_ok (Calls g f) n w0 w1 r) in
      record { rest = g.0; uses = g.1; end = g.2 }

  pub walks_rows : (n : ℕ) (w0 w1 : Walker) (r : Result (Unit {0}) AllocError) → RepeatsUpTo (Calls g f) n w0 r w1 → OnOk r (Walks all (rows none more (one w0.at.end) n) w0 w1)
  walks_rows n w0 w1 (Ok tt) h = rows_walked n w0 w1 h
  walks_rows n w0 w1 (Err e) h = tt

  pub walks_listed : (stands : Bool) (w0 w2 : Walker) → WalksEach g f stands w0 w2 → Walks all (listed none more (one w0.at.end) stands) w0 w2
  walks_listed stands w0 w2 h =
      let n : ℕ = (count stands (left w0)).0 in
      let g = rows_walked n h.counted w2 h.each in
      record {
        rest = g.rest ∙ (λ i. (rows none more (one (h.end i)) n (h.rest i)).1);
        uses = g.uses ∙ (λ i. all (rows none more (one (h.end i)) n (h.rest i)).0 (h.uses i));
        end = g.end ∙ h.end;
      }

-- and over a field of a module, of which each record tells what it declares
abbrev all_left : Collector → List ℕ
all_left c = left c.walker

abbrev all_gathered : Collector → Gathered
all_gathered c = gathered c.walker (vec_items c.declared)

module _ {A L F : Type 0} (none : L) (more : A → L → L) (one : ℕ → List ℕ → A × List ℕ) (put : A → List Use → List Use) (tell : A → Declared) (all : L → Gathered → Gathered) (nothing : (x : Gathered) → x ≡ all none x) (cons : (a : A) (l : L) (x : Gathered) → all l (own_put put tell a x) ≡ all (more a l) x) (g : Shared F (MutBor Walker × (ℕ × Unit {0})) (Result DeclaredOf AllocError × (MutBor Walker × Unit {0}))) (f : F) where
  told : ((x y : MutBor Walker) (d : DeclaredOf) → g.post f (x, (64, tt)) (Ok d, (y, tt)) → Tells put tell (one x.now.at.end) x.now y.now d) → (s t : Collector) → Declares g f 64 s t → Read all_left (λ c. c.walker.at.end) all_gathered (own_put put tell) (one s.walker.at.end) s t
  told tells s t d =
      let w : Tells put tell (one s.walker.at.end) s.walker t.walker d.one = subst (λ w. Tells put tell (one w.at.end) w t.walker d.one) d.shows (subst (λ w. Tells put tell (one d.shown.now.at.end) d.shown.now w d.one) d.leaves (tells d.shown d.left d.one d.met)) in
      let ds : map declared_of (vec_items t.declared) ≡ map declared_of (vec_items s.declared) ++ declared_of d.one ∷ [] = ap (map declared_of) d.declared ∙ map_push declared_of (vec_items s.declared) d.one in
      (w.rest, λ i. (w.uses i, (ds ∙ ap (λ (x : Declared). map declared_of (vec_items s.declared) ++ x ∷ []) w.declared) i), w.end)

  pub owned : (stands : Bool) (c0 c2 : Collector) → DeclaresEach g f 64 stands c0 c2 → ((x y : MutBor Walker) (d : DeclaredOf) → g.post f (x, (64, tt)) (Ok d, (y, tt)) → Tells put tell (one x.now.at.end) x.now y.now d) → Owns all (listed none more (one c0.walker.at.end) stands) c0.walker c2.walker (vec_items c0.declared) (vec_items c2.declared)
  owned stands c0 c2 r tells =
      let n : ℕ = (count stands (all_left c0)).0 in
      let x = repeated all_left (λ c. c.walker.at.end) all_gathered none more one (own_put put tell) all nothing cons (Declares g f 64) (told tells) n r.counted.walker.at.end r.counted c2 refl r.each in
      record {
        rest = x.0 ∙ (λ i. (rows none more (one (r.end i)) n (r.rest i)).1);
        state = x.1 ∙ (λ i. all (rows none more (one (r.end i)) n (r.rest i)).0 (r.state i));
        end = x.2 ∙ r.end;
      }
