-- The module that learns where its own declarations start is the one that was opened before its submodules were read.
use Rattle.std.proofs.Common.{◌≡◌, ℕ, ◌<◌, Bool, List, [], ◌∷◌, ◌++◌, map, length, get_or, set, Some, Option, vec_items, sym, refl, ap, ◌∙◌, append_assoc, arith, length-append}
use Rattle.std.proofs.lemmas.List.{length-map}
use Rattle.model.specs.declared.cursor.Cursor.{Cursor}
use Rattle.model.specs.declared.findings.Findings.{Findings}
use Rattle.model.specs.declared.files.File.{File}
use Rattle.model.specs.declared.files.Listed.{Listed}
use Rattle.model.specs.declared.files.Listing.{Listing}
use Rattle.model.specs.Files.{file, Held, held}
use Rattle.model.specs.Steps.{Went, file_of, held_of, gathered}
use Rattle.model.specs.Listed.{with_own, Opened}
use Rattle.model.specs.Audit.{audit_list, audit_module}
use Rattle.model.proofs.ToldModules.{submodules_kept}

module _ (p own : ℕ) (h : Option ℕ) (s : List ℕ) where
  files_settled : (d : Listed) (before : List Held) (ms : List Listed) (hs : List Held) → map held_of ms ≡ before ++ held p h s ∷ hs → map file_of (set ms (length before) (with_own own (get_or ms (length before) d))) ≡ set (map file_of ms) (length before) (file p h own)
  files_settled d [] [] hs e = absurd (omega (arith, ap length e))
  files_settled d [] (x ∷ xs) hs e =
      let y : held_of x ≡ held p h s = cc in
      ap (λ (z : Held). file z.place z.holder own ∷ map file_of xs) y
  files_settled d (b ∷ before) [] hs e = absurd (omega (arith, ap length e))
  files_settled d (b ∷ before) (x ∷ xs) hs e =
      ap (λ (l : List File). x.file ∷ l) (files_settled d before xs hs (let y : map held_of xs ≡ before ++ held p h s ∷ hs = cc in y))

  siblings_settled : (d : Listed) (before : List Held) (ms : List Listed) → map held_of (set ms (length before) (with_own own (get_or ms (length before) d))) ≡ map held_of ms
  siblings_settled d [] [] = refl
  siblings_settled d [] (x ∷ xs) = refl
  siblings_settled d (b ∷ before) [] = refl
  siblings_settled d (b ∷ before) (x ∷ xs) = ap (λ (l : List Held). held_of x ∷ l) (siblings_settled d before xs)

  both_settled : (before : List Held) (ms after : List Listed) (k : ℕ) (hs : List Held) → k ≡ length before → map held_of ms ≡ before ++ held p h s ∷ hs → ((d : Listed) → k < length ms → after ≡ set ms k (with_own own (get_or ms k d))) → (map file_of after ≡ set (map file_of ms) k (file p h own)) × (map held_of after ≡ map held_of ms)
  both_settled before [] after k hs l e f = absurd (omega (arith, ap length e, length-append before (held p h s ∷ hs)))
  both_settled before (x ∷ xs) after k hs l e f =
      rw (f x (omega (arith, ap length e, length-append before (held p h s ∷ hs), length-map xs held_of, l)), l) (files_settled x before (x ∷ xs) hs e, siblings_settled x before (x ∷ xs))

-- what is listed once a module's own declarations are read
pub settled : (n d p own k : ℕ) (h : Option ℕ) (s : List ℕ) (b : Bool) (at to : Cursor) (f g : Findings) (list opened kept after : Listing) → k ≡ length (map file_of (vec_items list.modules)) → Opened p h s list opened → Went (audit_list n (audit_module n d (Some k)) b) at to (gathered f opened) (gathered g kept) → ((x : Listed) → k < length (vec_items kept.modules) → vec_items after.modules ≡ set (vec_items kept.modules) k (with_own own (get_or (vec_items kept.modules) k x))) → (map file_of (vec_items after.modules) ≡ set (map file_of (vec_items kept.modules)) k (file p h own)) × (map held_of (vec_items after.modules) ≡ map held_of (vec_items kept.modules))
settled n d p own k h s b at to f g list opened kept after l o w r =
    let more = submodules_kept n d (Some k) b at.rest.now to.rest.now (gathered f opened) (gathered g kept) w.is in
    let before = map held_of (vec_items list.modules) in
    both_settled p own h s before (vec_items kept.modules) (vec_items after.modules) k more.0 (l ∙ length-map (vec_items list.modules) file_of ∙ sym (length-map (vec_items list.modules) held_of)) (more.1 ∙ ap (λ (l : List Held). l ++ more.0) o.siblings ∙ append_assoc before (held p h s ∷ []) more.0) r
