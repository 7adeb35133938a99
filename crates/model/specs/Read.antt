-- Reading a model, as the format says: front to back, over the bytes that are left, the first fault ending it. `n` is the
-- model's length throughout, so that an item's place is n less what is left from it on, and n itself where bytes run out.
-- The number before the bytes is how deep the tree may still go.
use Rattle.std.specs.Prelude.{ℕ, zero, suc, ◌+◌, ◌-◌, ◌*◌, ◌/◌, ◌%◌, Bool, true, false, cond, List, [], ◌∷◌, length, take, drop, Some, None, Option, ◌==◌, nat_le, nat_lt}
use Rattle.model.specs.Tree.{Text, Constant, Expr, Exprs, Attribute, Argument, Star, Function, Class, Classes, Module, py_none, py_false, py_true, int, float, str, ellipsis, constant, name, attr, binop, tuple, list, subscript, end, item, pyclass, no_class, add_class, pymodule, no_module, add_module}

-- what was read and the bytes behind it, or the place of the fault
pub data Out (A : Type 0) : Type 0 where
  read : A → List ℕ → Out A
  fault : ℕ → Out A

abbrev pub bind : {A B : Type 0} → Out A → (A → List ℕ → Out B) → Out B
bind (read a bs) f = f a bs
bind (fault p) f = fault p

abbrev pub place : ℕ → List ℕ → ℕ
place n bs = n - length bs

abbrev pub byte : ℕ → List ℕ → Out ℕ
byte n [] = fault n
byte n (b ∷ bs) = read b bs

abbrev pub number : ℕ → List ℕ → Out ℕ
number n bs = bind (byte n bs) (λ high r. bind (byte n r) (λ low s. read (high * 256 + low) s))

-- the next k bytes, where there are as many
abbrev pub cut : ℕ → ℕ → List ℕ → Out Text
cut n k bs = cond (nat_le k (length bs)) (read (take k bs) (drop k bs)) (fault n)

abbrev pub text : ℕ → List ℕ → Out Text
text n bs = bind (number n bs) (cut n)

-- a map of which only the bits below `limit` have a name
abbrev pub fields : ℕ → ℕ → List ℕ → Out ℕ
fields n limit bs = bind (number n bs) (λ m r. cond (nat_lt m limit) (read m r) (fault (place n bs)))

-- the bit of this value stands in the map
abbrev pub bit : ℕ → ℕ → Bool
bit m value = m / value % 2 == 1

-- a list field has at least one item
abbrev pub count : ℕ → List ℕ → Out ℕ
count n bs = bind (number n bs) (λ k r. cond (k == 0) (fault (place n bs)) (read k r))

-- a list of k items, made by `none` and `more`
abbrev pub rows : {A L : Type 0} → L → (A → L → L) → (List ℕ → Out A) → ℕ → List ℕ → Out L
rows none more one zero bs = read none bs
rows none more one (suc k) bs = bind (one bs) (λ a r. bind (rows none more one k r) (λ l s. read (more a l) s))

abbrev pub listed : {A L : Type 0} → ℕ → L → (A → L → L) → (List ℕ → Out A) → Bool → List ℕ → Out L
listed n none more one true bs = bind (count n bs) (rows none more one)
listed n none more one false bs = read none bs

abbrev pub optional : {A : Type 0} → (List ℕ → Out A) → Bool → List ℕ → Out (Option A)
optional one true bs = bind (one bs) (λ a r. read (Some a) r)
optional one false bs = read None bs

-- how an expression begins: its tag, with the text or the count that follows it
pub data Head : Type 0 where
  constant_head : Constant → Head
  name_head : Text → Head
  attr_head : Head
  binop_head : Head
  tuple_head : ℕ → Head
  list_head : ℕ → Head
  subscript_head : Head

abbrev pub texted : ℕ → (Text → Head) → List ℕ → Out Head
texted n make bs = bind (text n bs) (λ s r. read (make s) r)

abbrev pub counted : ℕ → (ℕ → Head) → List ℕ → Out Head
counted n make bs = bind (number n bs) (λ k r. read (make k) r)

-- the head that a tag gives; p is the tag's place
abbrev pub tagged : ℕ → ℕ → ℕ → List ℕ → Out Head
tagged n p tag bs =
    cond (tag == 0) (read (constant_head py_none) bs)
    (cond (tag == 1) (read (constant_head py_false) bs)
    (cond (tag == 2) (read (constant_head py_true) bs)
    (cond (tag == 3) (texted n (λ s. constant_head (int s)) bs)
    (cond (tag == 4) (texted n (λ s. constant_head (float s)) bs)
    (cond (tag == 5) (texted n (λ s. constant_head (str s)) bs)
    (cond (tag == 6) (read (constant_head ellipsis) bs)
    (cond (tag == 7) (texted n name_head bs)
    (cond (tag == 8) (read attr_head bs)
    (cond (tag == 9) (read binop_head bs)
    (cond (tag == 10) (counted n tuple_head bs)
    (cond (tag == 11) (counted n list_head bs)
    (cond (tag == 12) (read subscript_head bs)
    (fault p)))))))))))))

abbrev pub head : ℕ → List ℕ → Out Head
head n bs = bind (byte n bs) (tagged n (place n bs))

-- the rest of an expression at p, by its head; `one` reads an expression in it
abbrev pub parts : ℕ → (List ℕ → Out Expr) → ℕ → Head → List ℕ → Out Expr
parts n one p (constant_head c) bs = read (constant p c) bs
parts n one p (name_head s) bs = read (name p s) bs
parts n one p attr_head bs = bind (one bs) (λ e r. bind (text n r) (λ s t. read (attr p e s) t))
parts n one p binop_head bs = bind (one bs) (λ e r. bind (one r) (λ f s. read (binop p e f) s))
parts n one p (tuple_head k) bs = bind (rows end item one k bs) (λ es r. read (tuple p es) r)
parts n one p (list_head k) bs = bind (rows end item one k bs) (λ es r. read (list p es) r)
parts n one p subscript_head bs = bind (one bs) (λ e r. bind (one r) (λ f s. read (subscript p e f) s))

unfoldable pub expr : ℕ → ℕ → List ℕ → Out Expr
expr n zero bs = fault (place n bs)
expr n (suc d) bs = bind (head n bs) (λ h r. parts n (expr n d) (place n bs) h r)

abbrev pub attribute : ℕ → ℕ → List ℕ → Out Attribute
attribute n d bs =
    bind (fields n 4 bs) λ m r0. bind (text n r0) λ s r1. bind (optional (expr n d) (bit m 1) r1) λ value r2. bind (optional (expr n d) (bit m 2) r2) λ annotation r3. read (record { place = place n bs; name = s; value = value; annotation = annotation }) r3

abbrev pub argument : ℕ → ℕ → List ℕ → Out Argument
argument n d bs =
    bind (fields n 4 bs) λ m r0. bind (text n r0) λ s r1. bind (optional (expr n d) (bit m 1) r1) λ default r2. bind (optional (expr n d) (bit m 2) r2) λ annotation r3. read (record { place = place n bs; name = s; default = default; annotation = annotation }) r3

-- bit 0 has no name in the map of a vararg or kwarg
abbrev pub star_fields : ℕ → List ℕ → Out ℕ
star_fields n bs = bind (fields n 4 bs) (λ m r. cond (bit m 1) (fault (place n bs)) (read m r))

abbrev pub star : ℕ → ℕ → List ℕ → Out Star
star n d bs =
    bind (star_fields n bs) λ m r0. bind (text n r0) λ s r1. bind (optional (expr n d) (bit m 2) r1) λ annotation r2. read (record { place = place n bs; name = s; annotation = annotation }) r2

abbrev pub exprs : ℕ → ℕ → Bool → List ℕ → Out Exprs
exprs n d = listed n end item (expr n d)

abbrev pub arguments : ℕ → ℕ → Bool → List ℕ → Out (List Argument)
arguments n d = listed n [] ◌∷◌ (argument n d)

abbrev pub function : ℕ → ℕ → List ℕ → Out Function
function n d bs =
    bind (fields n 128 bs) λ m r0. bind (text n r0) λ s r1. bind (exprs n d (bit m 1) r1) λ decorators r2. bind (arguments n d (bit m 2) r2) λ positional r3. bind (arguments n d (bit m 4) r3) λ regular r4. bind (optional (star n d) (bit m 8) r4) λ vararg r5. bind (arguments n d (bit m 16) r5) λ keyword r6. bind (optional (star n d) (bit m 32) r6) λ kwarg r7. bind (optional (expr n d) (bit m 64) r7) λ returns r8. read (record { place = place n bs; name = s; decorators = decorators; positional = positional; regular = regular; vararg = vararg; keyword = keyword; kwarg = kwarg; returns = returns }) r8

abbrev pub functions : ℕ → ℕ → Bool → List ℕ → Out (List Function)
functions n d = listed n [] ◌∷◌ (function n d)

abbrev pub attributes : ℕ → ℕ → Bool → List ℕ → Out (List Attribute)
attributes n d = listed n [] ◌∷◌ (attribute n d)

-- a class whose inner classes `one` reads; what it holds may go d deep
abbrev pub class_over : ℕ → ℕ → (List ℕ → Out Class) → List ℕ → Out Class
class_over n d one bs =
    bind (fields n 32 bs) λ m r0. bind (text n r0) λ s r1. bind (exprs n d (bit m 1) r1) λ bases r2. bind (functions n d (bit m 2) r2) λ methods r3. bind (attributes n d (bit m 4) r3) λ attrs r4. bind (exprs n d (bit m 8) r4) λ decorators r5. bind (listed n no_class add_class one (bit m 16) r5) λ inner r6. read (pyclass (place n bs) s bases methods attrs decorators inner) r6

unfoldable pub one_class : ℕ → ℕ → List ℕ → Out Class
one_class n zero bs = fault (place n bs)
one_class n (suc d) bs = class_over n d (one_class n d) bs

abbrev pub classes : ℕ → ℕ → Bool → List ℕ → Out Classes
classes n d = listed n no_class add_class (one_class n d)

-- a module whose submodules `one` reads; what it holds may go d deep
abbrev pub module_over : ℕ → ℕ → (List ℕ → Out Module) → List ℕ → Out Module
module_over n d one bs =
    bind (fields n 16 bs) λ m r0. bind (text n r0) λ s r1. bind (listed n no_module add_module one (bit m 1) r1) λ modules r2. bind (classes n d (bit m 2) r2) λ cs r3. bind (functions n d (bit m 4) r3) λ fs r4. bind (attributes n d (bit m 8) r4) λ attrs r5. read (pymodule (place n bs) s modules (place n r2) cs fs attrs) r5

unfoldable pub one_module : ℕ → ℕ → List ℕ → Out Module
one_module n zero bs = fault (place n bs)
one_module n (suc d) bs = module_over n d (one_module n d) bs

-- no byte more
abbrev pub ended : ℕ → Module → List ℕ → Out Module
ended n m [] = read m []
ended n m (b ∷ bs) = fault (place n (b ∷ bs))

abbrev pub deepest_allowed : ℕ
deepest_allowed = 64

-- the version byte, and behind it one module
abbrev pub versioned : ℕ → List ℕ → Out Module
versioned n [] = fault n
versioned n (v ∷ bs) = cond (v == 1) (bind (one_module n deepest_allowed bs) (ended n)) (fault (place n (v ∷ bs)))

-- the model that these bytes are, or the place of the first fault
abbrev pub model : List ℕ → Out Module
model bs = versioned (length bs) bs
