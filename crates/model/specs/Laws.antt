-- What reading means, in terms of writing.
use Rattle.std.specs.Prelude.{◌≡◌, ℕ, ◌-◌, ◌<◌, ◌≤◌, ◌⊎◌, ◌↔◌, List, [], ◌++◌, length, take, ◌≢◌}
use Rattle.std.specs.List.{AllByRecursion}
use Rattle.model.specs.Tree.{Module, module_depth}
use Rattle.model.specs.Encode.{encode}
use Rattle.model.specs.Read.{read, fault, model}
use Rattle.model.specs.Places.{module_at}

abbrev pub Bytes : List ℕ → Type 0
Bytes bs = AllByRecursion (λ b. b < 256) bs

-- The bytes are a tree's encoding, and nothing more; the tree is at most 64 deep; its places are where its items start.
abbrev pub Describes : List ℕ → Module → Type 0
Describes bs m = (bs ≡ encode m) × ((module_depth m ≤ 64) × module_at m 1)

-- A model is read as a tree exactly if it describes that tree.
abbrev pub ReadsExactly : Type 0
ReadsExactly = (bs : List ℕ) → Bytes bs → (m : Module) → (model bs ≡ read m []) ↔ Describes bs m

-- these bytes begin the encoding of some tree, of whatever depth
abbrev pub Continuable : List ℕ → Type 0
Continuable bs = (m : Module) × ((more : List ℕ) × (bs ++ more ≡ encode m))

-- A fault shows no later than it must: what stands before its place begins the encoding of a tree. Only where the bytes
-- ran out inside a number of two bytes may its first byte have spoilt that already, since such a number is judged whole.
abbrev pub FaultsInTime : Type 0
FaultsInTime =
    (bs : List ℕ) → Bytes bs → (p : ℕ) → model bs ≡ fault p → (p ≤ length bs) × (Continuable (take p bs) ⊎ ((p ≡ length bs) × Continuable (take (p - 1) bs)))

-- A fault inside the bytes is final: nothing that could follow them makes a model of them.
abbrev pub FaultsForGood : Type 0
FaultsForGood =
    (bs : List ℕ) (p : ℕ) → model bs ≡ fault p → p < length bs → (more : List ℕ) (m : Module) → model (bs ++ more) ≢ read m []
