-- How the walk goes on: one step into an expression or a class, and a loop over items.
use Rattle.std.proofs.Common.{◌≡◌, ℕ, zero, suc, ◌+◌, ◌-◌, ◌<◌, List, [], IfOk, Ok, Err, Result, sym, refl, ap, ◌∙◌, arith, Bor}
use Rattle.model.specs.declared.expression.Expression.{Expression}
use Rattle.model.specs.declared.expression.Expression.TheVariants.{None, False, True, Int, Float, Str, Ellipsis, Name, Attribute, BinOp, Tuple, List as ListOf, Subscript}
use Rattle.model.specs.Tree.{Text, Expr, Class, constant, py_none, end, pyclass, no_class}
use Rattle.model.specs.Steps.{head_of, declared_of}
use Rattle.model.specs.Uses.{Use, builtins, if_name, class_declared}
use Rattle.model.specs.declared.uses.Declared.{Declared as DeclaredOf}
use Rattle.model.specs.Read.{place, Head}
use Rattle.walk.specs.Total.{head, parts, expr, class_over, one_class}
use Rattle.walk.specs.Puts.{skip, skips, skip_parts, expr_put, class_put}
use Rattle.walk.specs.Walks.{Walks, Tells, Noted, left, uses_of}
use Rattle.walk.specs.declared.walker.Walker.{Walker}

pub skip-zero : (d : ℕ) (bs : List ℕ) → d ≡ 0 → bs ≡ skip d bs
unfolding skip
skip-zero zero bs z = refl
skip-zero (suc d) bs z = absurd (omega arith)

pub skip-opened : (d : ℕ) (bs : List ℕ) → (d ≡ 0 → ⊥) → skip d bs ≡ skip_parts (skip (d - 1)) (head bs).0 (head bs).1
unfolding skip
skip-opened zero bs h = absurd (h refl)
skip-opened (suc d) bs h = let e : suc d - 1 ≡ d = omega arith in rw e refl

pub skip-inside : (d : ℕ) (bs r rest : List ℕ) (h : Head) → (d ≡ 0 → ⊥) → h ≡ (head bs).0 → r ≡ (head bs).1 → rest ≡ skip_parts (skip (d - 1)) h r → rest ≡ skip d bs
skip-inside d bs r rest h z eh er e = e ∙ ((λ i. skip_parts (skip (d - 1)) (eh i) (er i)) ∙ sym (skip-opened d bs z))

pub skips-more : (one : List ℕ → List ℕ) (n i : ℕ) (bs : List ℕ) → i < n → skips one (n - i) bs ≡ skips one (n - (i + 1)) (one bs)
skips-more one n i bs h = let e : n - i ≡ suc (n - (i + 1)) = omega arith in rw e refl

pub expr-zero : (n d : ℕ) (bs : List ℕ) → d ≡ 0 → expr n d bs ≡ (constant (place n bs) py_none, bs)
unfolding expr
expr-zero n zero bs z = refl
expr-zero n (suc d) bs z = absurd (omega arith)

pub expr-opened : (n d : ℕ) (bs : List ℕ) → (d ≡ 0 → ⊥) → expr n d bs ≡ parts (expr n (d - 1)) (place n bs) (head bs).0 (head bs).1
unfolding expr
expr-opened n zero bs h = absurd (h refl)
expr-opened n (suc d) bs h = let e : suc d - 1 ≡ d = omega arith in rw e refl

pub expr-inside : (n d p : ℕ) (bs r : List ℕ) (h : Head) → (d ≡ 0 → ⊥) → p ≡ place n bs → h ≡ (head bs).0 → r ≡ (head bs).1 → expr n d bs ≡ parts (expr n (d - 1)) p h r
expr-inside n d p bs r h z ep eh er = expr-opened n d bs z ∙ (λ i. parts (expr n (d - 1)) (sym ep i) (sym eh i) (sym er i))

pub bare_zero : (d : ℕ) (bs : List ℕ) → d ≡ 0 → (n : ℕ) (f : Text → List Use) (other : List Use) → if_name (expr n d bs).0 f other ≡ other
bare_zero d bs z n f other = ap (λ (o : Expr × List ℕ). if_name o.0 f other) (expr-zero n d bs z)

pub bare_other : (d : ℕ) (bs r : List ℕ) (h : Expression) → (d ≡ 0 → ⊥) → head_of h ≡ (head bs).0 → r ≡ (head bs).1 → ((s : Bor Text) → h ≡ Name s → ⊥) → (n : ℕ) (f : Text → List Use) (other : List Use) → if_name (expr n d bs).0 f other ≡ other
bare_other d bs r h z eh er other-kind n f other =
    ap (λ (o : Expr × List ℕ). if_name o.0 f other) (expr-inside n d (place n bs) bs r (head_of h) z refl eh er) ∙ at_kind h other-kind
  where
    at_kind : (h : Expression) → ((s : Bor Text) → h ≡ Name s → ⊥) → if_name (parts (expr n (d - 1)) (place n bs) (head_of h) r).0 f other ≡ other
    at_kind None o = refl
    at_kind False o = refl
    at_kind True o = refl
    at_kind (Int s) o = refl
    at_kind (Float s) o = refl
    at_kind (Str s) o = refl
    at_kind Ellipsis o = refl
    at_kind (Name s) o = absurd (o s refl)
    at_kind Attribute o = refl
    at_kind BinOp o = refl
    at_kind (Tuple k) o = refl
    at_kind (ListOf k) o = refl
    at_kind Subscript o = refl

pub made_by : {T E P Q : Type 0} (r : Result T E) → IfOk r (λ _. P) → (P → Q) → IfOk r (λ _. Q)
made_by (Ok x) g f = f g
made_by (Err y) g f = tt

pub walks_inside : (d p : ℕ) (h : Head) (w0 w1 w2 : Walker) → (d ≡ 0 → ⊥) → p ≡ place w0.at.end (left w0) → h ≡ (head (left w0)).0 → left w1 ≡ (head (left w0)).1 → w1.at.end ≡ w0.at.end → uses_of w1 ≡ uses_of w0 → Walks expr_put (parts (expr w1.at.end (d - 1)) p h) w1 w2 → Walks expr_put (expr w0.at.end d) w0 w2
walks_inside d p h w0 w1 w2 z ep eh er en eu g =
    let e = (λ i. parts (expr (en i) (d - 1)) p h (left w1)) ∙ sym (expr-inside w0.at.end d p (left w0) (left w1) h z ep eh er) in
    record { rest = g.rest ∙ ap (λ (o : Expr × List ℕ). o.1) e; uses = g.uses ∙ (λ i. expr_put (e i).0 (eu i)); end = g.end ∙ en }

pub noted_name : (one : List ℕ → Expr × List ℕ) (p : ℕ) (h : Expression) (s : Bor Text) (w0 w1 : Walker) → h ≡ Name s → Noted p builtins s.now w0 w1 → Walks expr_put (parts one p (head_of h)) w0 w1
noted_name one p h s w0 w1 e g =
    record { rest = g.rest ∙ ap (λ (k : Expression). (parts one p (head_of k) (left w0)).1) (sym e); uses = g.uses ∙ ap (λ (k : Expression). expr_put (parts one p (head_of k) (left w0)).0 (uses_of w0)) (sym e); end = g.end }

pub class-zero : (n d : ℕ) (bs : List ℕ) → d ≡ 0 → one_class n d bs ≡ (pyclass (place n bs) [] end [] [] end no_class, bs)
unfolding one_class
class-zero n zero bs z = refl
class-zero n (suc d) bs z = absurd (omega arith)

pub class-opened : (n d : ℕ) (bs : List ℕ) → (d ≡ 0 → ⊥) → one_class n d bs ≡ class_over n (d - 1) (one_class n (d - 1)) bs
unfolding one_class
class-opened n zero bs h = absurd (h refl)
class-opened n (suc d) bs h = let e : suc d - 1 ≡ d = omega arith in rw e refl

-- nothing of an empty class is read
pub tells_empty : (n d p : ℕ) (w : Walker) (v : DeclaredOf) → d ≡ 0 → p ≡ place n (left w) → declared_of v ≡ record { place = p; name = [] } → Tells class_put class_declared (one_class n d) w w v
tells_empty n d p w v z ep ev =
    let e = sym (class-zero n d (left w) z) in
    record {
      rest = ap (λ (o : Class × List ℕ). o.1) e;
      uses = ap (λ (o : Class × List ℕ). class_put o.0 (uses_of w)) e;
      end = refl;
      declared = ev ∙ (ap (λ (q : ℕ). record { place = q; name = [] }) ep ∙ ap (λ (o : Class × List ℕ). class_declared o.0) e);
    }

pub tells-inside : (n d : ℕ) (w0 w1 : Walker) (v : DeclaredOf) → (d ≡ 0 → ⊥) → Tells class_put class_declared (class_over n (d - 1) (one_class n (d - 1))) w0 w1 v → Tells class_put class_declared (one_class n d) w0 w1 v
tells-inside n d w0 w1 v z g =
    let e = sym (class-opened n d (left w0) z) in
    record {
      rest = g.rest ∙ ap (λ (o : Class × List ℕ). o.1) e;
      uses = g.uses ∙ ap (λ (o : Class × List ℕ). class_put o.0 (uses_of w0)) e;
      end = g.end;
      declared = g.declared ∙ ap (λ (o : Class × List ℕ). class_declared o.0) e;
    }
