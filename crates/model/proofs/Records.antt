-- Attributes, arguments and functions are read as written.
use Rattle.std.proofs.Common.{◌≡◌, ℕ, suc, ◌^◌, ◌<◌, Bool, false, cond, List, [], ◌∷◌, ◌++◌, length, is_some, Option, sym, refl, ◌∙◌, subst}
use Rattle.std.proofs.lemmas.Bool.{cond_both, cond-false}
use Rattle.model.specs.Tree.{Text, Expr, Exprs, Attribute, Argument, Star, Function, attribute_depth, argument_depth, star_depth, function_depth, deepest}
use Rattle.model.specs.Encode as Encode
use Rattle.model.specs.Encode.{exprs_count, attribute_bytes, argument_bytes, star_bytes, function_bytes}
use Rattle.model.specs.Places.{each_at, attribute_at, argument_at, star_at, function_at}
use Rattle.model.specs.Read.{read, fault, place, bit, fields, optional, expr, attribute, argument, star, star_fields, function, exprs, arguments}
use Rattle.model.proofs.Exact.{Good, good_bind, good_weaker, on, Format, Exact}
use Rattle.model.proofs.Numbers.{ups, bits_ups, ups_bits, ups_higher, lowest, bits_below, fields_reads, fields_writes}
use Rattle.model.proofs.Rows.{Lists, ExactIf, field_format, any_format, listed_exact, optional_exact}
use Rattle.model.proofs.Parts.{last, next, last_exact, next_exact, ExactMap, framed_exact}
use Rattle.model.proofs.Exprs.{expr_format, exprs_format, exprs_lists, expr_exact}

-- a list of items that are written one behind another
abbrev pub list_format : {A : Type 0} → Format A → Format (List A)
list_format F = record { bytes = Encode.each F.bytes; At = each_at F.At F.bytes; depth = deepest F.depth }

list_ind : {A : Type 0} (P : List A → Type 0) → P [] → ((a : A) (l : List A) → P l → P (a ∷ l)) → (l : List A) → P l
list_ind P n m [] = n
list_ind P n m (a ∷ l) = m a l (list_ind P n m l)

pub list_lists : {A : Type 0} (F : Format A) → Lists F (list_format F) length [] ◌∷◌
list_lists F = record {
  ind = list_ind;
  size_none = refl;
  size_more = λ a l. refl;
  bytes-none = refl;
  bytes-more = λ a l. refl;
  at_none = λ p. tt;
  at_more = λ a l p x y. (x, y);
  at-parts = λ a l p h. h;
  depth_none = refl;
  depth_more = λ a l. refl;
}

abbrev pub plain : List Bool → List Bool
plain fs = fs

pub fields_exact : (n c : ℕ) → ExactMap plain c 1 (fields n (2 ^ c))
fields_exact n c = record {
  reads = λ bs b. good_weaker _ _ (fields n (2 ^ c) bs) (fields_reads n c bs b) (λ m r e. (e.0, bits_ups m c e.1));
  writes = λ fs r e. fields_writes n c (Encode.bits fs) r (subst (λ k. Encode.bits fs < 2 ^ k) e (bits_below fs));
  picks = λ fs e. sym (subst (λ k. ups (Encode.bits fs) 1 k ≡ fs) e (ups_bits fs));
}

abbrev pub starred : List Bool → List Bool
starred fs = false ∷ fs

pub star_fields_exact : (n : ℕ) → ExactMap starred 1 2 (star_fields n)
star_fields_exact n = record {
  reads = λ bs b. good_bind _ _ (fields n 4 bs) _ (fields_reads n 2 bs b) λ m r e.
      cond_both (bit m 1) _ _ (Good (λ m r. (bs ≡ Encode.number m ++ r) × (Encode.bits (starred (ups m 2 1)) ≡ m))) (λ h. tt) (λ h. (e.0, subst (λ t. Encode.bits (t ∷ ups m 2 1) ≡ m) h (bits_ups m 2 e.1)));
  writes = λ fs r e.
      let m : ℕ = Encode.bits (false ∷ fs) in
      on (λ m t. cond (bit m 1) (fault (place n (Encode.number (Encode.bits (false ∷ fs)) ++ r))) (read m t)) (fields n 4 (Encode.number m ++ r)) (fields_writes n 2 m r (subst (λ k. m < 2 ^ suc k) e (bits_below (false ∷ fs)))) ∙ cond-false (bit m 1) _ _ (lowest false (Encode.bits fs));
  picks = λ fs e. sym (ups_higher false (Encode.bits fs) 1 1 ∙ subst (λ k. ups (Encode.bits fs) 1 k ≡ fs) e (ups_bits fs));
}

pub exprs_exact : (n d : ℕ) → ExactIf (field_format exprs_format exprs_count) (λ l. Encode.stands (exprs_count l)) n d (exprs n d)
exprs_exact n d = listed_exact n d (expr n d) exprs_lists (expr_exact n d)

pub any_expr_exact : (n d : ℕ) → ExactIf (any_format expr_format) is_some n d (optional (expr n d))
any_expr_exact n d = optional_exact n d (expr n d) (expr_exact n d)

abbrev pub attribute_format : Format Attribute
attribute_format = record { bytes = attribute_bytes; At = attribute_at; depth = attribute_depth }

abbrev make_attribute : ℕ → Text → Option Expr × Option Expr → Attribute
make_attribute q s x = record { place = q; name = s; value = x.0; annotation = x.1 }

pub attribute_exact : (n d : ℕ) → Exact attribute_format n d (attribute n d)
attribute_exact n d =
    framed_exact plain 2 n d d 1 (fields n 4) (next (optional (expr n d)) (last (optional (expr n d)))) make_attribute (fields_exact n 2)
    (next_exact (any_expr_exact n d) (last_exact (any_expr_exact n d)))
    (record {
      ind = λ P h a. h a.place a.name (a.value, a.annotation);
      bytes = λ q s x. refl;
      at = λ q s x p. (λ h. h, λ h. h);
      depth = λ q s x. (λ h. h, λ h. h);
    })

abbrev pub argument_format : Format Argument
argument_format = record { bytes = argument_bytes; At = argument_at; depth = argument_depth }

abbrev make_argument : ℕ → Text → Option Expr × Option Expr → Argument
make_argument q s x = record { place = q; name = s; default = x.0; annotation = x.1 }

pub argument_exact : (n d : ℕ) → Exact argument_format n d (argument n d)
argument_exact n d =
    framed_exact plain 2 n d d 1 (fields n 4) (next (optional (expr n d)) (last (optional (expr n d)))) make_argument (fields_exact n 2)
    (next_exact (any_expr_exact n d) (last_exact (any_expr_exact n d)))
    (record {
      ind = λ P h a. h a.place a.name (a.default, a.annotation);
      bytes = λ q s x. refl;
      at = λ q s x p. (λ h. h, λ h. h);
      depth = λ q s x. (λ h. h, λ h. h);
    })

abbrev pub star_format : Format Star
star_format = record { bytes = star_bytes; At = star_at; depth = star_depth }

abbrev make_star : ℕ → Text → Option Expr → Star
make_star q s x = record { place = q; name = s; annotation = x }

pub star_exact : (n d : ℕ) → Exact star_format n d (star n d)
star_exact n d =
    framed_exact starred 1 n d d 2 (star_fields n) (last (optional (expr n d))) make_star (star_fields_exact n) (last_exact (any_expr_exact n d))
    (record {
      ind = λ P h a. h a.place a.name a.annotation;
      bytes = λ q s x. refl;
      at = λ q s x p. (λ h. h, λ h. h);
      depth = λ q s x. (λ h. h, λ h. h);
    })

pub arguments_exact : (n d : ℕ) → ExactIf (field_format (list_format argument_format) length) (λ l. Encode.stands (length l)) n d (arguments n d)
arguments_exact n d = listed_exact n d (argument n d) (list_lists argument_format) (argument_exact n d)

pub any_star_exact : (n d : ℕ) → ExactIf (any_format star_format) is_some n d (optional (star n d))
any_star_exact n d = optional_exact n d (star n d) (star_exact n d)

abbrev pub function_format : Format Function
function_format = record { bytes = function_bytes; At = function_at; depth = function_depth }

abbrev FunctionFields : Type 0
FunctionFields = Exprs × (List Argument × (List Argument × (Option Star × (List Argument × (Option Star × Option Expr)))))

abbrev make_function : ℕ → Text → FunctionFields → Function
make_function q s x = record { place = q; name = s; decorators = x.0; positional = x.1.0; regular = x.1.1.0; vararg = x.1.1.1.0; keyword = x.1.1.1.1.0; kwarg = x.1.1.1.1.1.0; returns = x.1.1.1.1.1.1 }

pub function_exact : (n d : ℕ) → Exact function_format n d (function n d)
function_exact n d =
    framed_exact plain 7 n d d 1 (fields n 128)
    (next (exprs n d) (next (arguments n d) (next (arguments n d) (next (optional (star n d)) (next (arguments n d) (next (optional (star n d)) (last (optional (expr n d)))))))))
    make_function (fields_exact n 7)
    (next_exact (exprs_exact n d) (next_exact (arguments_exact n d) (next_exact (arguments_exact n d) (next_exact (any_star_exact n d) (next_exact (arguments_exact n d) (next_exact (any_star_exact n d) (last_exact (any_expr_exact n d))))))))
    (record {
      ind = λ P h f. h f.place f.name (f.decorators, (f.positional, (f.regular, (f.vararg, (f.keyword, (f.kwarg, f.returns))))));
      bytes = λ q s x. refl;
      at = λ q s x p. (λ h. h, λ h. h);
      depth = λ q s x. (λ h. h, λ h. h);
    })
