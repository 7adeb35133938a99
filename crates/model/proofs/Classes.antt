-- Classes are read as written.
use Rattle.std.proofs.Common.{◌≡◌, ℕ, zero, suc, ◌≤◌, List, length, refl, arith}
use Rattle.model.specs.Tree.{Text, Exprs, Attribute, Function, Class, Classes, class_depth, classes_depth, pyclass, no_class, add_class}
use Rattle.model.specs.Encode as Encode
use Rattle.model.specs.Encode.{class_bytes, classes_bytes, classes_count}
use Rattle.model.specs.Places.{class_at, classes_at}
use Rattle.model.specs.Read.{Out, fault, place, fields, listed, exprs, attribute, attributes, function, functions, class_over, one_class, classes}
use Rattle.model.proofs.Exact.{Format, Exact, exact_same}
use Rattle.model.proofs.Rows.{Lists, ExactIf, field_format, listed_exact}
use Rattle.model.proofs.Parts.{last, next, last_exact, next_exact, framed_exact}
use Rattle.model.proofs.Records.{list_format, list_lists, plain, fields_exact, exprs_exact, attribute_format, attribute_exact, function_format, function_exact}

pub attributes_exact : (n d : ℕ) → ExactIf (field_format (list_format attribute_format) length) (λ l. Encode.stands (length l)) n d (attributes n d)
attributes_exact n d = listed_exact n d (attribute n d) (list_lists attribute_format) (attribute_exact n d)

pub functions_exact : (n d : ℕ) → ExactIf (field_format (list_format function_format) length) (λ l. Encode.stands (length l)) n d (functions n d)
functions_exact n d = listed_exact n d (function n d) (list_lists function_format) (function_exact n d)

abbrev pub class_format : Format Class
class_format = record { bytes = class_bytes; At = class_at; depth = class_depth }

abbrev pub classes_format : Format Classes
classes_format = record { bytes = classes_bytes; At = classes_at; depth = classes_depth }

classes_ind : (P : Classes → Type 0) → P no_class → ((c : Class) (cs : Classes) → P cs → P (add_class c cs)) → (cs : Classes) → P cs
classes_ind P n m no_class = n
classes_ind P n m (add_class c cs) = m c cs (classes_ind P n m cs)

pub classes_lists : Lists class_format classes_format classes_count no_class add_class
classes_lists = record {
  ind = classes_ind;
  size_none = refl;
  size_more = λ a l. refl;
  bytes-none = refl;
  bytes-more = λ a l. refl;
  at_none = λ p. tt;
  at_more = λ a l p x y. (x, y);
  at-parts = λ a l p h. h;
  depth_none = refl;
  depth_more = λ a l. refl;
}

abbrev ClassFields : Type 0
ClassFields = Exprs × (List Function × (List Attribute × (Exprs × Classes)))

abbrev make_class : ℕ → Text → ClassFields → Class
make_class q s x = pyclass q s x.0 x.1.0 x.1.1.0 x.1.1.1.0 x.1.1.1.1

class_ind : (P : Class → Type 0) → ((q : ℕ) (s : Text) (x : ClassFields) → P (make_class q s x)) → (c : Class) → P c
class_ind P h (pyclass q s bases methods attributes decorators inner) = h q s (bases, (methods, (attributes, (decorators, inner))))

pub class_over_exact : (n d : ℕ) (one : List ℕ → Out Class) → Exact class_format n d one → Exact class_format n (suc d) (class_over n d one)
class_over_exact n d one x =
    framed_exact plain 5 n d (suc d) 1 (fields n 32)
    (next (exprs n d) (next (functions n d) (next (attributes n d) (next (exprs n d) (last (listed n no_class add_class one))))))
    make_class (fields_exact n 5)
    (next_exact (exprs_exact n d) (next_exact (functions_exact n d) (next_exact (attributes_exact n d) (next_exact (exprs_exact n d) (last_exact (listed_exact n d one classes_lists x))))))
    (record { ind = class_ind; bytes = λ q s x. refl; at = λ q s x p. (λ h. h, λ h. h); depth = λ q s x. (λ h. omega arith, λ h. omega arith) })

pub class-none : (n : ℕ) (bs : List ℕ) → one_class n 0 bs ≡ fault (place n bs)
unfolding one_class
class-none n bs = refl

pub class-step : (n d : ℕ) (bs : List ℕ) → one_class n (suc d) bs ≡ class_over n d (one_class n d) bs
unfolding one_class
class-step n d bs = refl

pub class_deep : (c : Class) → 1 ≤ class_depth c
class_deep (pyclass q s bases methods attributes decorators inner) = omega arith

pub class_exact : (n d : ℕ) → Exact class_format n d (one_class n d)
class_exact n zero = record {
  reads = λ p bs b h. rw (class-none n bs) tt;
  writes = λ p c r h at deep. absurd (omega (arith, class_deep c));
}
class_exact n (suc d) = exact_same (one_class n (suc d)) (class_over n d (one_class n d)) (class-step n d) (class_over_exact n d (one_class n d) (class_exact n d))

pub classes_exact : (n d : ℕ) → ExactIf (field_format classes_format classes_count) (λ l. Encode.stands (classes_count l)) n d (classes n d)
classes_exact n d = listed_exact n d (one_class n d) classes_lists (class_exact n d)
