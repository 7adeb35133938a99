-- The root's name, and the lesser of two finds.
use Rattle.std.proofs.Common.{◌≡◌, ℕ, Bool, true, false, cond, ◌&&◌, eqb, List, [], ◌∷◌, ◌++◌, map, Some, None, Option, sym, refl, ap, ◌∙◌, arith}
use Rattle.std.specs.List.{slice_get}
use Rattle.std.specs.Str.{bytes_eq}
use Rattle.model.specs.declared.files.Listed.{Listed}
use Rattle.model.specs.Limits.{same_text_of}
use Rattle.model.specs.Uses.{builtins}
use Rattle.model.specs.Rules.{least}
use Rattle.model.specs.Steps.{held_of}
use Rattle.model.proofs.Soonest.{merged, least_append}
use Rattle.model.specs.Rules.{soonest}
use Rattle.verdict.specs.Judged.{root_named_of}

pub same_bytes : (xs ys : List ℕ) → bytes_eq xs ys ≡ same_text_of xs ys
same_bytes [] [] = refl
same_bytes [] (y ∷ ys) = refl
same_bytes (x ∷ xs) [] = refl
same_bytes (x ∷ xs) (y ∷ ys) = ap (λ (b : Bool). eqb x y && b) (same_bytes xs ys)

chosen : (b c : Bool) (p : ℕ) → b ≡ c → cond b (Some p) None ≡ least (cond c (p ∷ []) [])
chosen true true p e = refl
chosen true false p e = let z : ◌≡◌ {A = ℕ} 0 1 = cc in absurd (omega arith)
chosen false true p e = let z : ◌≡◌ {A = ℕ} 0 1 = cc in absurd (omega arith)
chosen false false p e = refl

-- the first module is the root
pub root_is : (xs : List Listed) (x : Listed) (b : Bool) → Some x ≡ slice_get xs 0 → b ≡ same_text_of x.name.now builtins → cond b (Some x.file.place) None ≡ least (root_named_of (map held_of xs))
root_is [] x b h e = let z : ◌≡◌ {A = ℕ} 0 1 = cc in absurd (omega arith)
root_is (y ∷ ys) x b h e =
    let same : x ≡ y = cc in
    chosen b (same_text_of x.name.now builtins) x.file.place e ∙ ap (λ (z : Listed). least (root_named_of (map held_of (z ∷ ys)))) same

merged_soonest : (a b : Option ℕ) → merged a b ≡ soonest a b
merged_soonest None b = refl
merged_soonest (Some p) None = refl
merged_soonest (Some p) (Some q) = refl

pub soonest_append : (xs ys : List ℕ) → soonest (least xs) (least ys) ≡ least (xs ++ ys)
soonest_append xs ys = sym (least_append xs ys ∙ merged_soonest (least xs) (least ys))
