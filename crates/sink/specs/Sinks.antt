-- What a sink means: the lines that it has taken, and the runs of further lines that it would take.
use Rattle.std.specs.Prelude.{◌≡◌, ℕ, suc, List, [], ◌∷◌, ◌++◌, take, Ok, Err, Result, ◌≢◌}
use Rattle.std.specs.List.{AllByRecursion}
use Rattle.sink.specs.declared.meaning.Refusal.{Refusal}
use Rattle.sink.specs.declared.run.RunRefusal.{RunRefusal}

-- no byte of the line is a newline
abbrev pub Plain : List ℕ → Type 0
Plain line = AllByRecursion (λ b. b ≢ 10) line

-- two predicates hold of the same runs
pub record Same (P Q : List (List ℕ) → Type 0) : Type 0 where
  pub to : (rs : List (List ℕ)) → P rs → Q rs
  pub back : (rs : List (List ℕ)) → Q rs → P rs

-- every sink would take the empty run, each beginning of a run that it would take, and no run with a newline in a line
pub record SinkLaws {S : Type 0} (takes : S → List (List ℕ) → Type 0) : Type 0 where
  pub none : (s : S) → takes s []
  pub front : (s : S) (rs more : List (List ℕ)) → takes s (rs ++ more) → takes s rs
  pub plain : (s : S) (rs : List (List ℕ)) → takes s rs → AllByRecursion Plain rs

-- a run is taken: it would be, it ends the list, and the runs are now those that followed it
pub record Taking (before : List (List ℕ)) (runs : List (List ℕ) → Type 0) (ls : List (List ℕ)) (after : List (List ℕ)) (runs' : List (List ℕ) → Type 0) : Type 0 where
  pub would : runs ls
  pub grown : after ≡ before ++ ls
  pub rest : Same runs' (λ rs. runs (ls ++ rs))

-- a line is refused: its run would not be taken, and both values remain
pub record Refusing (before : List (List ℕ)) (runs : List (List ℕ) → Type 0) (line : List ℕ) (after : List (List ℕ)) (runs' : List (List ℕ) → Type 0) : Type 0 where
  pub would_not : runs (line ∷ []) → ⊥
  pub same : after ≡ before
  pub rest : Same runs' runs

abbrev pub Answered : List (List ℕ) → (List (List ℕ) → Type 0) → List ℕ → Result (Unit {0}) Refusal → List (List ℕ) → (List (List ℕ) → Type 0) → Type 0
Answered before runs line (Ok x) after runs' = Taking before runs (line ∷ []) after runs'
Answered before runs line (Err e) after runs' = Refusing before runs line after runs'

-- the same of a sink s that came to be s', whose two values are given by taken and takes

-- the run ls was taken
abbrev pub Took : {S : Type 0} → (S → List (List ℕ)) → (S → List (List ℕ) → Type 0) → S → List (List ℕ) → S → Type 0
Took taken takes s ls s' = Taking (taken s) (takes s) ls (taken s') (takes s')

-- the line was offered, with this answer
abbrev pub Offered : {S : Type 0} → (S → List (List ℕ)) → (S → List (List ℕ) → Type 0) → S → List ℕ → Result (Unit {0}) Refusal → S → Type 0
Offered taken takes s line r s' = Answered (taken s) (takes s) line r (taken s') (takes s')

-- the lines were offered in turn, up to the first that was refused, which says how many those before it are
abbrev pub OfferedAll : {S : Type 0} → (S → List (List ℕ)) → (S → List (List ℕ) → Type 0) → S → List (List ℕ) → Result (Unit {0}) RunRefusal → S → Type 0
OfferedAll taken takes s ls (Ok x) s' = Took taken takes s ls s'
OfferedAll taken takes s ls (Err e) s' = Took taken takes s (take e.taken ls) s' × (takes s (take (suc e.taken) ls) → ⊥)
