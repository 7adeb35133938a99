-- What holds of each element of a list, by recursion on the list.
use Rattle.std.proofs.Common.{ℕ, ◌<◌, List, [], ◌∷◌, ◌++◌, length, get_or, drop, map, Contains}
use Rattle.std.specs.List.{AllByRecursion}
use Rattle.std.proofs.lemmas.List.Elements.{All-from_recursion, recursion_from_All, All-append, All-push, All-drop, All-map, All-from_get_or, All-contains, All-weaker}

pub each-append : {X : Type 0} (P : X → Type 0) (xs ys : List X) → AllByRecursion P xs → AllByRecursion P ys → AllByRecursion P (xs ++ ys)
each-append P xs ys a b = recursion_from_All P (xs ++ ys) (All-append P xs ys (All-from_recursion P xs a) (All-from_recursion P ys b))

pub each-push : {X : Type 0} (P : X → Type 0) (xs : List X) (x : X) → AllByRecursion P xs → P x → AllByRecursion P (xs ++ x ∷ [])
each-push P xs x a p = recursion_from_All P (xs ++ x ∷ []) (All-push P xs x (All-from_recursion P xs a) p)

pub each-drop : {X : Type 0} (P : X → Type 0) (n : ℕ) (xs : List X) → AllByRecursion P xs → AllByRecursion P (drop n xs)
each-drop P n xs a = recursion_from_All P (drop n xs) (All-drop P n xs (All-from_recursion P xs a))

pub each-map : {X Y : Type 0} (P : X → Type 0) (f : Y → X) (ys : List Y) → AllByRecursion (λ y. P (f y)) ys → AllByRecursion P (map f ys)
each-map P f ys a = recursion_from_All P (map f ys) (All-map P f ys (All-from_recursion (λ y. P (f y)) ys a))

pub each-from_get_or : {X : Type 0} (P : X → Type 0) (xs : List X) (d : X) → ((i : ℕ) → i < length xs → P (get_or xs i d)) → AllByRecursion P xs
each-from_get_or P xs d h = recursion_from_All P xs (All-from_get_or P xs d h)

pub each-contains : {X : Type 0} (P : X → Type 0) (xs : List X) (x : X) → AllByRecursion P xs → Contains xs x → P x
each-contains P xs x a c = All-contains P xs x (All-from_recursion P xs a) c

pub each_weaker : {X : Type 0} (P Q : X → Type 0) → ((x : X) → P x → Q x) → (xs : List X) → AllByRecursion P xs → AllByRecursion Q xs
each_weaker P Q h xs a = recursion_from_All Q xs (All-weaker P Q h xs (All-from_recursion P xs a))
