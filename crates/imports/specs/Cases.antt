-- Worked cases: what a file refers to, with the names and the import lines that come of it.
use Rattle.std.specs.Prelude.{◌≡◌, List, [], ◌∷◌, map, Some, codes}
use Rattle.std.specs.List.{AllByRecursion}
use Rattle.model.specs.Tree.{Text}
use Rattle.references.specs.References.{Reference}
use Rattle.binding.specs.Binding.{Taken, bound, exhausted, by_number, take_all_of, declared_by, local_name}
use Rattle.imports.specs.Lines.{import_lines_of}

pub record Case : Type 0 where
  pub own : Text
  pub base : Text
  pub declared : List Text
  pub references : List Reference
  pub names : List Text
  pub lines : List Text

abbrev pub ComesTo : Case → Taken → Type 0
ComesTo c (bound b) = (map (local_name b) c.references ≡ map Some c.names) × (import_lines_of c.own c.base b ≡ c.lines)
ComesTo c (exhausted r) = ⊥

abbrev pub Holds : Case → Type 0
Holds c = ComesTo c (take_all_of by_number (declared_by c.own c.declared) c.references)

abbrev pub cases : List Case
cases =
    -- two attributes under one root
    record {
      own = codes "pay";
      base = codes "pay";
      declared = [];
      references = (codes "m", codes "A.B") ∷ (codes "m", codes "A.C") ∷ [];
      names = codes "A.B" ∷ codes "A.C" ∷ [];
      lines = codes "from m import A" ∷ [];
    }
    -- a root that the file declares and two modules have
    ∷ record {
      own = codes "pay";
      base = codes "pay";
      declared = codes "Rate" ∷ [];
      references = (codes "contract", codes "Rate") ∷ (codes "pay", codes "Rate") ∷ (codes "tax", codes "Rate") ∷ [];
      names = codes "Rate2" ∷ codes "Rate" ∷ codes "Rate3" ∷ [];
      lines = codes "from contract import Rate as Rate2" ∷ codes "from tax import Rate as Rate3" ∷ [];
    }
    -- a builtin under its own name
    ∷ record {
      own = codes "pay";
      base = codes "pay";
      declared = [];
      references = (codes "builtins", codes "list") ∷ [];
      names = codes "list" ∷ [];
      lines = [];
    }
    -- a builtin whose name the file declares
    ∷ record {
      own = codes "pay";
      base = codes "pay";
      declared = codes "list" ∷ [];
      references = (codes "builtins", codes "list") ∷ [];
      names = codes "list2" ∷ [];
      lines = codes "from builtins import list as list2" ∷ [];
    }
    -- a module of the same package
    ∷ record {
      own = codes "r.a";
      base = codes "r";
      declared = [];
      references = (codes "r.b", codes "X") ∷ [];
      names = codes "X" ∷ [];
      lines = codes "from .b import X" ∷ [];
    }
    -- two names of one module
    ∷ record {
      own = codes "pay";
      base = codes "pay";
      declared = codes "B" ∷ [];
      references = (codes "m", codes "A") ∷ (codes "m", codes "B") ∷ [];
      names = codes "A" ∷ codes "B2" ∷ [];
      lines = codes "from m import A, B as B2" ∷ [];
    }
    -- lines stand by their bytes, and not by the modules, since a dot comes before letters
    ∷ record {
      own = codes "r.b";
      base = codes "r";
      declared = [];
      references = (codes "a", codes "X") ∷ (codes "r.c", codes "Y") ∷ [];
      names = codes "X" ∷ codes "Y" ∷ [];
      lines = codes "from .c import Y" ∷ codes "from a import X" ∷ [];
    }
    ∷ []

abbrev pub WorkedCases : Type 0
WorkedCases = AllByRecursion Holds cases
