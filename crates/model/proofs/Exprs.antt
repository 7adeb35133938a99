-- Expressions are read as written.
use Rattle.std.proofs.Common.{◌≡◌, ℕ, zero, suc, ◌+◌, ◌≤◌, max, cond, eqb, List, [], ◌∷◌, ◌++◌, length, sym, refl, ap, ◌∙◌, subst, append_assoc, arith}
use Rattle.std.proofs.lemmas.Bool.{cond_both, eqb-true}
use Rattle.model.specs.Tree.{Text, Expr, Exprs, expr_depth, exprs_depth, py_none, py_false, py_true, int, float, str, ellipsis, constant, name, attr, binop, tuple, list, subscript, end, item}
use Rattle.model.specs.Encode as Encode
use Rattle.model.specs.Encode.{expr_bytes, exprs_bytes, exprs_count, constant_bytes}
use Rattle.model.specs.Places.{expr_at, exprs_at}
use Rattle.model.specs.Read.{Out, read, fault, bind, place, number, text, rows, Head, constant_head, name_head, attr_head, binop_head, tuple_head, list_head, subscript_head, head, texted, counted, parts, expr}
use Rattle.model.specs.Laws.{Bytes}
use Rattle.model.proofs.Exact.{Good, good_bind, on, Format, Found, Exact, exact_same, ends_behind, bytes-behind, joined, place_is}
use Rattle.model.proofs.Numbers.{number_reads, number_writes, text_reads, text_writes}
use Rattle.model.proofs.Rows.{Lists, rows_reads, rows_writes}

abbrev pub expr_format : Format Expr
expr_format = record { bytes = expr_bytes; At = expr_at; depth = expr_depth }

abbrev pub exprs_format : Format Exprs
exprs_format = record { bytes = exprs_bytes; At = exprs_at; depth = exprs_depth }

exprs_ind : (P : Exprs → Type 0) → P end → ((e : Expr) (es : Exprs) → P es → P (item e es)) → (es : Exprs) → P es
exprs_ind P n m end = n
exprs_ind P n m (item e es) = m e es (exprs_ind P n m es)

pub exprs_lists : Lists expr_format exprs_format exprs_count end item
exprs_lists = record {
  ind = exprs_ind;
  size_none = refl;
  size_more = λ a l. refl;
  bytes-none = refl;
  bytes-more = λ a l. refl;
  at_none = λ p. tt;
  at_more = λ a l p x y. (x, y);
  at-parts = λ a l p h. h;
  depth_none = refl;
  depth_more = λ a l. refl;
}

abbrev pub head_bytes : Head → List ℕ
head_bytes (constant_head c) = constant_bytes c
head_bytes (name_head s) = 7 ∷ Encode.text s
head_bytes attr_head = 8 ∷ []
head_bytes binop_head = 9 ∷ []
head_bytes (tuple_head k) = 10 ∷ Encode.number k
head_bytes (list_head k) = 11 ∷ Encode.number k
head_bytes subscript_head = 12 ∷ []

abbrev pub Begins : List ℕ → Head → List ℕ → Type 0
Begins bs h r = bs ≡ head_bytes h ++ r

at_tag : (k tag : ℕ) (bs : List ℕ) (x y : Out Head) → Good (Begins (k ∷ bs)) x → Good (Begins (tag ∷ bs)) y → Good (Begins (tag ∷ bs)) (cond (eqb tag k) x y)
at_tag k tag bs x y g h =
    cond_both (eqb tag k) x y (Good (Begins (tag ∷ bs))) (λ e. subst (λ t. Good (Begins (t ∷ bs)) x) (sym (eqb-true tag k e)) g) (λ e. h)

texted_reads : (n k : ℕ) (make : Text → Head) (bs : List ℕ) → Bytes bs → ((s : Text) → head_bytes (make s) ≡ k ∷ Encode.text s) → Good (Begins (k ∷ bs)) (texted n make bs)
texted_reads n k make bs b e = good_bind _ _ (text n bs) _ (text_reads n bs b) (λ s r f. rw (e s) (ap (λ t. k ∷ t) f))

counted_reads : (n k : ℕ) (make : ℕ → Head) (bs : List ℕ) → Bytes bs → ((i : ℕ) → head_bytes (make i) ≡ k ∷ Encode.number i) → Good (Begins (k ∷ bs)) (counted n make bs)
counted_reads n k make bs b e = good_bind _ _ (number n bs) _ (number_reads n bs b) (λ s r f. rw (e s) (ap (λ t. k ∷ t) f))

pub head_reads : (n : ℕ) (bs : List ℕ) → Bytes bs → Good (Begins bs) (head n bs)
head_reads n [] b = tt
head_reads n (t ∷ bs) b =
    at_tag 0 t bs _ _ refl (at_tag 1 t bs _ _ refl (at_tag 2 t bs _ _ refl
    (at_tag 3 t bs _ _ (texted_reads n 3 (λ s. constant_head (int s)) bs b.1 λ s. refl)
    (at_tag 4 t bs _ _ (texted_reads n 4 (λ s. constant_head (float s)) bs b.1 λ s. refl)
    (at_tag 5 t bs _ _ (texted_reads n 5 (λ s. constant_head (str s)) bs b.1 λ s. refl)
    (at_tag 6 t bs _ _ refl
    (at_tag 7 t bs _ _ (texted_reads n 7 name_head bs b.1 λ s. refl)
    (at_tag 8 t bs _ _ refl (at_tag 9 t bs _ _ refl
    (at_tag 10 t bs _ _ (counted_reads n 10 tuple_head bs b.1 λ s. refl)
    (at_tag 11 t bs _ _ (counted_reads n 11 list_head bs b.1 λ s. refl)
    (at_tag 12 t bs _ _ refl tt))))))))))))

pub head_writes : (n : ℕ) (h : Head) (r : List ℕ) → head n (head_bytes h ++ r) ≡ read h r
head_writes n (constant_head py_none) r = refl
head_writes n (constant_head py_false) r = refl
head_writes n (constant_head py_true) r = refl
head_writes n (constant_head (int s)) r = on (λ s r. read (constant_head (int s)) r) (text n (Encode.text s ++ r)) (text_writes n s r)
head_writes n (constant_head (float s)) r = on (λ s r. read (constant_head (float s)) r) (text n (Encode.text s ++ r)) (text_writes n s r)
head_writes n (constant_head (str s)) r = on (λ s r. read (constant_head (str s)) r) (text n (Encode.text s ++ r)) (text_writes n s r)
head_writes n (constant_head ellipsis) r = refl
head_writes n (name_head s) r = on (λ s r. read (name_head s) r) (text n (Encode.text s ++ r)) (text_writes n s r)
head_writes n attr_head r = refl
head_writes n binop_head r = refl
head_writes n (tuple_head k) r = on (λ s r. read (tuple_head s) r) (number n (Encode.number k ++ r)) (number_writes n k r)
head_writes n (list_head k) r = on (λ s r. read (list_head s) r) (number n (Encode.number k ++ r)) (number_writes n k r)
head_writes n subscript_head r = refl

-- an expression whose parts `one` reads
abbrev pub expr_over : ℕ → (List ℕ → Out Expr) → List ℕ → Out Expr
expr_over n one bs = bind (head n bs) (λ h r. parts n one (place n bs) h r)

module _ (n d : ℕ) (one : List ℕ → Out Expr) (x : Exact expr_format n d one) where
  two_reads : (p : ℕ) (bs : List ℕ) → Bytes bs → p + length bs ≡ n → (k : Expr → Expr → Expr) (D : Expr → List ℕ → Type 0) → ((e f : Expr) (r : List ℕ) → bs ≡ expr_bytes e ++ expr_bytes f ++ r → expr_at e p × expr_at f (p + length (expr_bytes e)) → max (expr_depth e) (expr_depth f) ≤ d → D (k e f) r) → Good D (bind (one bs) (λ e r. bind (one r) (λ f s. read (k e f) s)))
  two_reads p bs b h k D go =
      good_bind _ D (one bs) _ (x.reads p bs b h) λ e r f.
      good_bind _ D (one r) _ (x.reads (p + length (expr_bytes e)) r (bytes-behind (expr_bytes e) r bs f.is b) (ends_behind n p (expr_bytes e) r bs f.is h)) λ e' s g.
      go e e' s (joined (expr_bytes e) (expr_bytes e') s r bs f.is g.is) (f.at, g.at) (omega (arith, f.deep, g.deep))

  parts_reads : (h : Head) (p : ℕ) (bs r : List ℕ) → Bytes bs → p + length bs ≡ n → Begins bs h r → Good (Found expr_format (suc d) p bs) (parts n one (place n bs) h r)
  parts_reads (constant_head c) p bs r b h e = record { is = e; at = place_is n p bs h; deep = omega arith }
  parts_reads (name_head s) p bs r b h e = record { is = e; at = place_is n p bs h; deep = omega arith }
  parts_reads attr_head p bs r b h e =
      let b1 : Bytes r = bytes-behind (8 ∷ []) r bs e b in
      good_bind _ _ (one r) _ (x.reads (p + 1) r b1 (ends_behind n p (8 ∷ []) r bs e h)) λ l s f.
      good_bind _ (Found expr_format (suc d) p bs) (text n s) _ (text_reads n s (bytes-behind (expr_bytes l) s r f.is b1)) λ m t g.
      record { is = e ∙ ap (λ t. 8 ∷ t) (joined (expr_bytes l) (Encode.text m) t s r f.is g); at = (place_is n p bs h, f.at); deep = omega (arith, f.deep) }
  parts_reads binop_head p bs r b h e =
      two_reads (p + 1) r (bytes-behind (9 ∷ []) r bs e b) (ends_behind n p (9 ∷ []) r bs e h) (binop (place n bs)) _ λ l m s is at deep.
      record { is = e ∙ ap (λ t. 9 ∷ t) is; at = (place_is n p bs h, at); deep = omega arith }
  parts_reads (tuple_head k) p bs r b h e =
      good_bind _ (Found expr_format (suc d) p bs) (rows end item one k r) _ (rows_reads n d one exprs_lists x k (p + 3) r (bytes-behind (10 ∷ Encode.number k) r bs e b) (ends_behind n p (10 ∷ Encode.number k) r bs e h)) λ es s f.
      record { is = rw f.0 (e ∙ ap (λ t. 10 ∷ Encode.number k ++ t) f.1.is); at = (place_is n p bs h, f.1.at); deep = omega (arith, f.1.deep) }
  parts_reads (list_head k) p bs r b h e =
      good_bind _ (Found expr_format (suc d) p bs) (rows end item one k r) _ (rows_reads n d one exprs_lists x k (p + 3) r (bytes-behind (11 ∷ Encode.number k) r bs e b) (ends_behind n p (11 ∷ Encode.number k) r bs e h)) λ es s f.
      record { is = rw f.0 (e ∙ ap (λ t. 11 ∷ Encode.number k ++ t) f.1.is); at = (place_is n p bs h, f.1.at); deep = omega (arith, f.1.deep) }
  parts_reads subscript_head p bs r b h e =
      two_reads (p + 1) r (bytes-behind (12 ∷ []) r bs e b) (ends_behind n p (12 ∷ []) r bs e h) (subscript (place n bs)) _ λ l m s is at deep.
      record { is = e ∙ ap (λ t. 12 ∷ t) is; at = (place_is n p bs h, at); deep = omega arith }

  -- the place that was read is the one that was written
  placed : (k : ℕ → Expr) (p q : ℕ) (bs r : List ℕ) → p + length bs ≡ n → q ≡ p → read (k (place n bs)) r ≡ read (k q) r
  placed k p q bs r h e = ap (λ t. read (k t) r) (place_is n p bs h ∙ sym e)

  two_writes : (p : ℕ) (e f : Expr) (r : List ℕ) → p + length (expr_bytes e ++ expr_bytes f ++ r) ≡ n → expr_at e p × expr_at f (p + length (expr_bytes e)) → max (expr_depth e) (expr_depth f) ≤ d → (k : Expr → Expr → Expr) → bind (one (expr_bytes e ++ expr_bytes f ++ r)) (λ e r. bind (one r) (λ f s. read (k e f) s)) ≡ read (k e f) r
  two_writes p e f r h at deep k =
      let same : expr_bytes e ++ expr_bytes f ++ r ≡ expr_bytes e ++ (expr_bytes f ++ r) = append_assoc (expr_bytes e) (expr_bytes f) r in
      ap (λ t. bind (one t) (λ e r. bind (one r) (λ f s. read (k e f) s))) same
      ∙ (on (λ e r. bind (one r) (λ f s. read (k e f) s)) (one (expr_bytes e ++ (expr_bytes f ++ r))) (x.writes p e (expr_bytes f ++ r) (rw same at h) at.0 (omega arith))
      ∙ on (λ f s. read (k e f) s) (one (expr_bytes f ++ r)) (x.writes (p + length (expr_bytes e)) f r (ends_behind n p (expr_bytes e) (expr_bytes f ++ r) _ same h) at.1 (omega arith)))

  over_writes : (e : Expr) (p : ℕ) (r : List ℕ) → p + length (expr_bytes e ++ r) ≡ n → expr_at e p → expr_depth e ≤ suc d → expr_over n one (expr_bytes e ++ r) ≡ read e r
  over_writes (constant q c) p r h at deep =
      on (λ g t. parts n one (place n (constant_bytes c ++ r)) g t) (head n (constant_bytes c ++ r)) (head_writes n (constant_head c) r) ∙ placed (λ t. constant t c) p q (constant_bytes c ++ r) r h at
  over_writes (name q s) p r h at deep =
      on (λ g t. parts n one (place n (7 ∷ Encode.text s ++ r)) g t) (head n (7 ∷ Encode.text s ++ r)) (head_writes n (name_head s) r) ∙ placed (λ t. name t s) p q (7 ∷ Encode.text s ++ r) r h at
  over_writes (attr q e s) p r h at deep =
      let all : List ℕ = expr_bytes (attr q e s) ++ r in
      let k : Expr → List ℕ → Out Expr = λ e r. bind (text n r) (λ s t. read (attr (place n all) e s) t) in
      let same : expr_bytes e ++ Encode.text s ++ r ≡ expr_bytes e ++ (Encode.text s ++ r) = append_assoc (expr_bytes e) (Encode.text s) r in
      ap (λ t. bind (one t) k) same
      ∙ (on k (one (expr_bytes e ++ (Encode.text s ++ r))) (x.writes (p + 1) e (Encode.text s ++ r) (rw same at (ends_behind n p (8 ∷ []) (expr_bytes e ++ Encode.text s ++ r) all refl h)) at.1 (omega arith))
      ∙ (on (λ s t. read (attr (place n all) e s) t) (text n (Encode.text s ++ r)) (text_writes n s r)
      ∙ placed (λ t. attr t e s) p q all r h at.0))
  over_writes (binop q e f) p r h at deep =
      two_writes (p + 1) e f r (ends_behind n p (9 ∷ []) (expr_bytes e ++ expr_bytes f ++ r) _ refl h) at.1 (omega arith) (binop (place n (expr_bytes (binop q e f) ++ r))) ∙ placed (λ t. binop t e f) p q (expr_bytes (binop q e f) ++ r) r h at.0
  over_writes (tuple q es) p r h at deep =
      let all : List ℕ = expr_bytes (tuple q es) ++ r in
      on (λ g t. parts n one (place n all) g t) (head n all) (head_writes n (tuple_head (exprs_count es)) (exprs_bytes es ++ r))
      ∙ (on (λ l t. read (tuple (place n all) l) t) (rows end item one (exprs_count es) (exprs_bytes es ++ r)) (rows_writes n d one exprs_lists x es (p + 3) r (ends_behind n p (10 ∷ Encode.number (exprs_count es)) (exprs_bytes es ++ r) all refl h) at.1 (omega arith))
      ∙ placed (λ t. tuple t es) p q all r h at.0)
  over_writes (list q es) p r h at deep =
      let all : List ℕ = expr_bytes (list q es) ++ r in
      on (λ g t. parts n one (place n all) g t) (head n all) (head_writes n (list_head (exprs_count es)) (exprs_bytes es ++ r))
      ∙ (on (λ l t. read (list (place n all) l) t) (rows end item one (exprs_count es) (exprs_bytes es ++ r)) (rows_writes n d one exprs_lists x es (p + 3) r (ends_behind n p (11 ∷ Encode.number (exprs_count es)) (exprs_bytes es ++ r) all refl h) at.1 (omega arith))
      ∙ placed (λ t. list t es) p q all r h at.0)
  over_writes (subscript q e f) p r h at deep =
      two_writes (p + 1) e f r (ends_behind n p (12 ∷ []) (expr_bytes e ++ expr_bytes f ++ r) _ refl h) at.1 (omega arith) (subscript (place n (expr_bytes (subscript q e f) ++ r))) ∙ placed (λ t. subscript t e f) p q (expr_bytes (subscript q e f) ++ r) r h at.0

  over_exact : Exact expr_format n (suc d) (expr_over n one)
  over_exact = record {
    reads = λ p bs b h. good_bind (Begins bs) (Found expr_format (suc d) p bs) (head n bs) _ (head_reads n bs b) (λ g r e. parts_reads g p bs r b h e);
    writes = λ p e r. over_writes e p r;
  }

expr-none : (n : ℕ) (bs : List ℕ) → expr n 0 bs ≡ fault (place n bs)
unfolding expr
expr-none n bs = refl

pub expr-step : (n d : ℕ) (bs : List ℕ) → expr n (suc d) bs ≡ expr_over n (expr n d) bs
unfolding expr
expr-step n d bs = refl

pub expr_deep : (e : Expr) → 1 ≤ expr_depth e
expr_deep (constant p c) = omega arith
expr_deep (name p s) = omega arith
expr_deep (attr p e s) = omega arith
expr_deep (binop p e f) = omega arith
expr_deep (tuple p es) = omega arith
expr_deep (list p es) = omega arith
expr_deep (subscript p e f) = omega arith

pub expr_exact : (n d : ℕ) → Exact expr_format n d (expr n d)
expr_exact n zero = record {
  reads = λ p bs b h. rw (expr-none n bs) tt;
  writes = λ p e r h at deep. absurd (omega (arith, expr_deep e));
}
expr_exact n (suc d) = exact_same (expr n (suc d)) (expr_over n (expr n d)) (expr-step n d) (over_exact n d (expr n d) (expr_exact n d))
