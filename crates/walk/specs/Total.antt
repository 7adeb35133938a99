-- Reading without faults, in the shape of the reading that checks. Past the end there are zeros, a text is cut at the end, an
-- unknown tag is None, a list field that does not stand has no items, and where the tree may go no deeper an expression is
-- None and a class is empty, and neither takes a byte. `n` is the model's length, from which places are told.
use Rattle.std.specs.Prelude.{ℕ, zero, suc, ◌+◌, ◌*◌, Bool, true, false, cond, List, [], ◌∷◌, length, take, drop, Some, None, Option, ◌==◌}
use Rattle.model.specs.declared.files.File.{File}
use Rattle.model.specs.Tree.{Text, Expr, Exprs, Attribute, Argument, Star, Function, Class, Classes, py_none, py_false, py_true, int, float, str, ellipsis, constant, name, attr, binop, tuple, list, subscript, end, item, pyclass, no_class, add_class}
use Rattle.model.specs.Read.{place, bit, Head, constant_head, name_head, attr_head, binop_head, tuple_head, list_head, subscript_head, deepest_allowed}

-- f of what was read and of the bytes behind it
abbrev pub then : {A B : Type 0} → A × List ℕ → (A → List ℕ → B) → B
then o f = f o.0 o.1

abbrev pub byte : List ℕ → ℕ × List ℕ
byte [] = (0, [])
byte (b ∷ bs) = (b, bs)

abbrev pub number : List ℕ → ℕ × List ℕ
number bs = then (byte bs) λ high r. then (byte r) λ low s. (high * 256 + low, s)

abbrev pub text : List ℕ → Text × List ℕ
text bs = then (number bs) λ k r. (take k r, drop k r)

-- how many items a list field has
abbrev pub count : Bool → List ℕ → ℕ × List ℕ
count true bs = number bs
count false bs = (0, bs)

abbrev pub rows : {A L : Type 0} → L → (A → L → L) → (List ℕ → A × List ℕ) → ℕ → List ℕ → L × List ℕ
rows none more one zero bs = (none, bs)
rows none more one (suc k) bs = then (one bs) λ a r. then (rows none more one k r) λ l s. (more a l, s)

abbrev pub listed : {A L : Type 0} → L → (A → L → L) → (List ℕ → A × List ℕ) → Bool → List ℕ → L × List ℕ
listed none more one stands bs = then (count stands bs) (rows none more one)

abbrev pub optional : {A : Type 0} → (List ℕ → A × List ℕ) → Bool → List ℕ → Option A × List ℕ
optional one true bs = then (one bs) λ a r. (Some a, r)
optional one false bs = (None, bs)

abbrev pub texted : (Text → Head) → List ℕ → Head × List ℕ
texted make bs = then (text bs) λ s r. (make s, r)

abbrev pub counted : (ℕ → Head) → List ℕ → Head × List ℕ
counted make bs = then (number bs) λ k r. (make k, r)

abbrev pub tagged : ℕ → List ℕ → Head × List ℕ
tagged tag bs =
    cond (tag == 0) (constant_head py_none, bs)
    (cond (tag == 1) (constant_head py_false, bs)
    (cond (tag == 2) (constant_head py_true, bs)
    (cond (tag == 3) (texted (λ s. constant_head (int s)) bs)
    (cond (tag == 4) (texted (λ s. constant_head (float s)) bs)
    (cond (tag == 5) (texted (λ s. constant_head (str s)) bs)
    (cond (tag == 6) (constant_head ellipsis, bs)
    (cond (tag == 7) (texted name_head bs)
    (cond (tag == 8) (attr_head, bs)
    (cond (tag == 9) (binop_head, bs)
    (cond (tag == 10) (counted tuple_head bs)
    (cond (tag == 11) (counted list_head bs)
    (cond (tag == 12) (subscript_head, bs)
    (constant_head py_none, bs)))))))))))))

abbrev pub head : List ℕ → Head × List ℕ
head bs = then (byte bs) tagged

-- the rest of an expression at p, by its head; `one` reads an expression in it
abbrev pub parts : (List ℕ → Expr × List ℕ) → ℕ → Head → List ℕ → Expr × List ℕ
parts one p (constant_head c) bs = (constant p c, bs)
parts one p (name_head s) bs = (name p s, bs)
parts one p attr_head bs = then (one bs) λ e r. then (text r) λ s t. (attr p e s, t)
parts one p binop_head bs = then (one bs) λ e r. then (one r) λ f s. (binop p e f, s)
parts one p (tuple_head k) bs = then (rows end item one k bs) λ es r. (tuple p es, r)
parts one p (list_head k) bs = then (rows end item one k bs) λ es r. (list p es, r)
parts one p subscript_head bs = then (one bs) λ e r. then (one r) λ f s. (subscript p e f, s)

unfoldable pub expr : ℕ → ℕ → List ℕ → Expr × List ℕ
expr n zero bs = (constant (place n bs) py_none, bs)
expr n (suc d) bs = then (head bs) (parts (expr n d) (place n bs))

abbrev pub any_expr : ℕ → ℕ → Bool → List ℕ → Option Expr × List ℕ
any_expr n d = optional (expr n d)

-- the value or the default, and the annotation, that a map tells
abbrev pub pair : ℕ → ℕ → ℕ → List ℕ → (Option Expr × Option Expr) × List ℕ
pair n d m bs = then (any_expr n d (bit m 1) bs) λ value r. then (any_expr n d (bit m 2) r) λ annotation s. ((value, annotation), s)

abbrev pub attribute : ℕ → ℕ → List ℕ → Attribute × List ℕ
attribute n d bs =
    then (number bs) λ m r0. then (text r0) λ s r1. then (pair n d m r1) λ x r2. (record { place = place n bs; name = s; value = x.0; annotation = x.1 }, r2)

abbrev pub argument : ℕ → ℕ → List ℕ → Argument × List ℕ
argument n d bs =
    then (number bs) λ m r0. then (text r0) λ s r1. then (pair n d m r1) λ x r2. (record { place = place n bs; name = s; default = x.0; annotation = x.1 }, r2)

abbrev pub star : ℕ → ℕ → List ℕ → Star × List ℕ
star n d bs =
    then (number bs) λ m r0. then (text r0) λ s r1. then (any_expr n d (bit m 2) r1) λ annotation r2. (record { place = place n bs; name = s; annotation = annotation }, r2)

abbrev pub exprs : ℕ → ℕ → Bool → List ℕ → Exprs × List ℕ
exprs n d = listed end item (expr n d)

abbrev pub arguments : ℕ → ℕ → Bool → List ℕ → List Argument × List ℕ
arguments n d = listed [] ◌∷◌ (argument n d)

abbrev pub any_star : ℕ → ℕ → Bool → List ℕ → Option Star × List ℕ
any_star n d = optional (star n d)

abbrev pub function : ℕ → ℕ → List ℕ → Function × List ℕ
function n d bs =
    then (number bs) λ m r0. then (text r0) λ s r1. then (exprs n d (bit m 1) r1) λ decorators r2. then (arguments n d (bit m 2) r2) λ positional r3. then (arguments n d (bit m 4) r3) λ regular r4. then (any_star n d (bit m 8) r4) λ vararg r5. then (arguments n d (bit m 16) r5) λ keyword r6. then (any_star n d (bit m 32) r6) λ kwarg r7. then (any_expr n d (bit m 64) r7) λ returns r8. (record { place = place n bs; name = s; decorators = decorators; positional = positional; regular = regular; vararg = vararg; keyword = keyword; kwarg = kwarg; returns = returns }, r8)

abbrev pub functions : ℕ → ℕ → Bool → List ℕ → List Function × List ℕ
functions n d = listed [] ◌∷◌ (function n d)

abbrev pub attributes : ℕ → ℕ → Bool → List ℕ → List Attribute × List ℕ
attributes n d = listed [] ◌∷◌ (attribute n d)

-- a class whose inner classes `one` reads; what it holds may go d deep
abbrev pub class_over : ℕ → ℕ → (List ℕ → Class × List ℕ) → List ℕ → Class × List ℕ
class_over n d one bs =
    then (number bs) λ m r0. then (text r0) λ s r1. then (exprs n d (bit m 1) r1) λ bases r2. then (functions n d (bit m 2) r2) λ methods r3. then (attributes n d (bit m 4) r3) λ attrs r4. then (exprs n d (bit m 8) r4) λ decorators r5. then (listed no_class add_class one (bit m 16) r5) λ inner r6. (pyclass (place n bs) s bases methods attrs decorators inner, r6)

unfoldable pub one_class : ℕ → ℕ → List ℕ → Class × List ℕ
one_class n zero bs = (pyclass (place n bs) [] end [] [] end no_class, bs)
one_class n (suc d) bs = class_over n d (one_class n d) bs

abbrev pub classes : ℕ → ℕ → Bool → List ℕ → Classes × List ℕ
classes n d = listed no_class add_class (one_class n d)

-- what a file declares
pub record Own : Type 0 where
  pub classes : Classes
  pub functions : List Function
  pub attributes : List Attribute

-- a module's own declarations, by its map
abbrev pub own : ℕ → ℕ → ℕ → List ℕ → Own × List ℕ
own n d m bs =
    then (classes n d (bit m 2) bs) λ cs r. then (functions n d (bit m 4) r) λ fs s. then (attributes n d (bit m 8) s) λ attrs t. (record { classes = cs; functions = fs; attributes = attrs }, t)

-- the declarations of a file of the model bs, which is reached by its record's place, where its map stands, and by theirs
abbrev pub own_in : List ℕ → File → Own
own_in bs f = (own (length bs) deepest_allowed (number (drop f.place bs)).0 (drop f.own bs)).0
