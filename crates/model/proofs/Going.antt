-- How a pass that gathers as it reads goes on: the exit of a `?`, one step into an expression or a class, and a loop over items.
use Rattle.std.proofs.Common.{◌≡◌, ℕ, zero, suc, ◌+◌, ◌-◌, ◌<◌, Bool, true, List, IsErrAnd, Ok, Err, Option, Result, sym, refl, ap, ◌∙◌, arith}
use Rattle.std.proofs.lemmas.Result.{err_from_is_err_and}
use Rattle.model.specs.declared.cursor.Cursor.{Cursor}
use Rattle.model.specs.declared.reader.Reader.{Reader}
use Rattle.model.specs.declared.modules.Lister.{Lister}
use Rattle.model.specs.declared.fault.Layout.{Layout}
use Rattle.model.specs.declared.fault.Fault.{Fault}
use Rattle.model.specs.declared.fault.Fault.TheVariants.{Broken, Memory}
use Rattle.model.specs.declared.findings.Findings.{Findings}
use Rattle.model.specs.Read.{Out, fault, bind, place, count, Head, head}
use Rattle.model.specs.Steps.{Passed, Went, Goes, Gathers, gathered}
use Rattle.model.specs.Audit.{note_head, audit_parts, audit_expr, laps, audit_list, audit_class_over, audit_class, Gathered, audit_module_over, audit_module}

-- a pass that begins as another does goes on as it
pub goes_by : {T : Type 0} (before mid after : Reader) (r : Result T Layout) (one two : List ℕ → Findings → Out Findings) → one before.at.rest.now before.found ≡ two mid.at.rest.now mid.found → mid.at.end ≡ before.at.end → Goes mid after r two → Goes before after r one
goes_by before mid after (Ok v) one two e f g = record { is = e ∙ g.is; end = g.end ∙ f }
goes_by before mid after (Err x) one two e f g = e ∙ g

-- the exit of a `?`
pub exits : {T : Type 0} (before after : Reader) (r : Result T Layout) (e : Layout) (one : List ℕ → Findings → Out Findings) → IsErrAnd r (λ y. y ≡ e) → one before.at.rest.now before.found ≡ fault e.place → Goes before after r one
exits before after r e one b h = let p = err_from_is_err_and r b in rw (p.1, p.2) h

pub expr_at-zero : (n d p : ℕ) (bs : List ℕ) (f : Findings) → d ≡ 0 → p ≡ place n bs → audit_expr n d bs f ≡ fault p
unfolding audit_expr
expr_at-zero n zero p bs f z e = rw e refl
expr_at-zero n (suc d) p bs f z e = absurd (omega arith)

-- one step into an expression
abbrev pub on_head : ℕ → ℕ → List ℕ → Findings → Head → List ℕ → Out Findings
on_head n d bs f h r = audit_parts n (audit_expr n d) (place n bs) h r (note_head (place n bs) h f)

pub expr-opened : (n d : ℕ) (bs : List ℕ) (f : Findings) → (d ≡ 0 → ⊥) → audit_expr n d bs f ≡ bind (head n bs) (on_head n (d - 1) bs f)
unfolding audit_expr
expr-opened n zero bs f h = absurd (h refl)
expr-opened n (suc d) bs f h = let e : suc d - 1 ≡ d = omega arith in rw e refl

pub expr-fault : (n d p : ℕ) (bs : List ℕ) (f : Findings) → (d ≡ 0 → ⊥) → head n bs ≡ fault p → audit_expr n d bs f ≡ fault p
expr-fault n d p bs f h e =
    expr-opened n d bs f h ∙ ap (λ (o : Out Head). bind o (on_head n (d - 1) bs f)) e

pub expr-inside : {T : Type 0} (before mid after : Reader) (at : Cursor) (d p : ℕ) (h : Head) (r : Result T Layout) → (d ≡ 0 → ⊥) → p ≡ place before.at.end before.at.rest.now → Passed (head before.at.end) h before.at at → mid.found ≡ note_head p h before.found → mid.at ≡ at → Goes mid after r (audit_parts mid.at.end (audit_expr mid.at.end (d - 1)) p h) → Goes before after r (audit_expr before.at.end d)
expr-inside before mid after at d p h r z pe he fe me g =
    goes_by before mid after r _ _ (expr-opened before.at.end d before.at.rest.now before.found z ∙ ap (λ (o : Out Head). bind o (on_head before.at.end (d - 1) before.at.rest.now before.found)) he.is ∙ rw (fe, me, he.end, pe) refl) (rw (me, he.end) refl) g

pub class_at-zero : (n d p : ℕ) (bs : List ℕ) (f : Findings) → d ≡ 0 → p ≡ place n bs → audit_class n d bs f ≡ fault p
unfolding audit_class
class_at-zero n zero p bs f z e = rw e refl
class_at-zero n (suc d) p bs f z e = absurd (omega arith)

pub class-opened : (n d : ℕ) (bs : List ℕ) (f : Findings) → (d ≡ 0 → ⊥) → audit_class n d bs f ≡ audit_class_over n (d - 1) (audit_class n (d - 1)) bs f
unfolding audit_class
class-opened n zero bs f h = absurd (h refl)
class-opened n (suc d) bs f h = let e : suc d - 1 ≡ d = omega arith in rw e refl

-- how far a loop over n items is: what is left to read gives what all of it gives, in the same model
pub record Sofar {S : Type 0} (one : List ℕ → S → Out S) (n i : ℕ) (before after : Cursor) (f g : S) : Type 0 where
  pub is : laps one n before.rest.now f ≡ laps one (n - i) after.rest.now g
  pub end : after.end ≡ before.end

-- a loop over k items
pub laps-more : {S : Type 0} (one : List ℕ → S → Out S) (n i : ℕ) (bs : List ℕ) (f : S) → i < n → laps one (n - i) bs f ≡ bind (one bs f) (λ g r. laps one (n - (i + 1)) r g)
laps-more one n i bs f h =
    let e : n - i ≡ suc (n - (i + 1)) = omega arith in
    rw e refl

pub sofar_more : {S : Type 0} (one : ℕ → List ℕ → S → Out S) (n i : ℕ) (before mid after : Cursor) (f g h : S) → i < n → Sofar (one before.end) n i before mid f g → Went (one mid.end) mid after g h → Sofar (one before.end) n (i + 1) before after f h
sofar_more one n i before mid after f g h l s w = record {
  is = s.is ∙ laps-more (one before.end) n i mid.rest.now g l ∙ ap (λ (o : Out _). bind o (λ g r. laps (one before.end) (n - (i + 1)) r g)) (ap (λ (k : ℕ). one k mid.rest.now g) (sym s.end) ∙ w.is);
  end = w.end ∙ s.end;
}

-- a list field that stands
pub listed_by : {S : Type 0} (one : ℕ → List ℕ → S → Out S) (stands : Bool) (before at : Cursor) (f : S) (k : ℕ) → stands ≡ true → Passed (count before.end) k before at → audit_list before.end (one before.end) stands before.rest.now f ≡ laps (one at.end) k at.rest.now f
listed_by one stands before at f k s p =
    ap (λ (b : Bool). audit_list before.end (one before.end) b before.rest.now f) s ∙ ap (λ (q : Out ℕ). bind q (λ k r. laps (one before.end) k r f)) p.is ∙ ap (λ (n : ℕ). laps (one n) k at.rest.now f) (sym p.end)

-- the same at the level of modules, where memory may lack
pub gathers_by : {T : Type 0} (before mid after : Lister) (r : Result T Fault) (one two : List ℕ → Gathered → Out Gathered) → one before.reader.at.rest.now (gathered before.reader.found before.list) ≡ two mid.reader.at.rest.now (gathered mid.reader.found mid.list) → mid.reader.at.end ≡ before.reader.at.end → Gathers mid after r two → Gathers before after r one
gathers_by before mid after (Ok v) one two e f g = record { is = e ∙ g.is; end = g.end ∙ f }
gathers_by before mid after (Err (Broken x)) one two e f g = e ∙ g
gathers_by before mid after (Err Memory) one two e f g = tt

pub module_at-zero : (n d p : ℕ) (h : Option ℕ) (bs : List ℕ) (g : Gathered) → d ≡ 0 → p ≡ place n bs → audit_module n d h bs g ≡ fault p
unfolding audit_module
module_at-zero n zero p h bs g z e = rw e refl
module_at-zero n (suc d) p h bs g z e = absurd (omega arith)

pub module-opened : (n d : ℕ) (h : Option ℕ) (bs : List ℕ) (g : Gathered) → (d ≡ 0 → ⊥) → audit_module n d h bs g ≡ audit_module_over n (d - 1) (audit_module n (d - 1)) h bs g
unfolding audit_module
module-opened n zero h bs g z = absurd (z refl)
module-opened n (suc d) h bs g z = let e : suc d - 1 ≡ d = omega arith in rw e refl
