-- Repeats and limits: places in a list of keys at which a key comes again, or at which one key too many has come.
use Rattle.std.specs.Prelude.{ℕ, ◌+◌, Bool, true, false, cond, ◌&&◌, ◌||◌, List, [], ◌∷◌, ◌++◌, map, Some, None, Option, ◌==◌, nat_lt}
use Rattle.model.specs.Files.{Held}
use Rattle.model.specs.Uses.{Use, Declared}

-- an entry of a list: its place and its key
pub record Keyed (K : Type 0) : Type 0 where
  pub place : ℕ
  pub key : K

module _ {K : Type 0} (same : K → K → Bool) where
  abbrev pub occurs : K → List K → Bool
  occurs k [] = false
  occurs k (x ∷ xs) = same k x || occurs k xs

  -- how many different keys there are
  abbrev pub distinct : List K → ℕ
  distinct [] = 0
  distinct (x ∷ xs) = cond (occurs x xs) 0 1 + distinct xs

  -- the places whose key came before, `seen` being the keys that came before these
  abbrev pub repeats_after : List K → List (Keyed K) → List ℕ
  repeats_after seen [] = []
  repeats_after seen (x ∷ xs) = cond (occurs x.key seen) (x.place ∷ []) [] ++ repeats_after (x.key ∷ seen) xs

  -- the places of entries that repeat the key of an earlier one
  abbrev pub repeats : List (Keyed K) → List ℕ
  repeats xs = repeats_after [] xs

  -- the places at which more than `limit` different keys have come
  abbrev pub over_after : ℕ → List K → List (Keyed K) → List ℕ
  over_after limit seen [] = []
  over_after limit seen (x ∷ xs) =
      cond (nat_lt limit (distinct (x.key ∷ seen))) (x.place ∷ []) [] ++ over_after limit (x.key ∷ seen) xs

  abbrev pub over : ℕ → List (Keyed K) → List ℕ
  over limit xs = over_after limit [] xs

-- texts are equal byte by byte
abbrev pub same_text_of : List ℕ → List ℕ → Bool
same_text_of [] [] = true
same_text_of [] (y ∷ ys) = false
same_text_of (x ∷ xs) [] = false
same_text_of (x ∷ xs) (y ∷ ys) = x == y && same_text_of xs ys

abbrev pub same_holder : Option ℕ → Option ℕ → Bool
same_holder None None = true
same_holder None (Some y) = false
same_holder (Some x) None = false
same_holder (Some x) (Some y) = x == y

abbrev pub held_key : Held → Keyed (Option ℕ × List ℕ)
held_key h = record { place = h.place; key = (h.holder, h.name) }

abbrev pub same_held : Option ℕ × List ℕ → Option ℕ × List ℕ → Bool
same_held x y = same_holder x.0 y.0 && same_text_of x.1 y.1

-- modules with a sibling of the same name before them
abbrev pub repeated_siblings : List Held → List ℕ
repeated_siblings hs = repeats same_held (map held_key hs)

abbrev pub use_key : Use → Keyed (List ℕ × List ℕ)
use_key u = record { place = u.place; key = (u.from, u.name) }

abbrev pub same_reference : List ℕ × List ℕ → List ℕ × List ℕ → Bool
same_reference x y = same_text_of x.0 y.0 && same_text_of x.1 y.1

-- at most so many distinct declared names, and as many distinct collected references, to a file
abbrev pub distinct_allowed : ℕ
distinct_allowed = 512

abbrev pub surplus_uses : List Use → List ℕ
surplus_uses us = over same_reference distinct_allowed (map use_key us)

abbrev pub declared_key : Declared → Keyed (List ℕ)
declared_key d = record { place = d.place; key = d.name }

abbrev pub surplus_declared_of : List Declared → List ℕ
surplus_declared_of ds = over same_text_of distinct_allowed (map declared_key ds)
