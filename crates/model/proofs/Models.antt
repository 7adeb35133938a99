-- Modules and whole models are read as written.
use Rattle.std.proofs.Common.{◌≡◌, ℕ, zero, suc, ◌≤◌, eqb, List, [], ◌∷◌, ◌++◌, length, refl, ap, ◌∙◌, subst, append-nil, arith}
use Rattle.std.proofs.lemmas.Bool.{cond_both, eqb-true}
use Rattle.model.specs.Tree.{Text, Attribute, Function, Classes, Module, Modules, module_depth, modules_depth, pymodule, no_module, add_module}
use Rattle.model.specs.Encode.{module_bytes, modules_bytes, modules_count, encode}
use Rattle.model.specs.Places.{module_at, modules_at}
use Rattle.model.specs.Read.{Out, read, fault, place, fields, listed, attributes, functions, classes, module_over, one_module, ended, model}
use Rattle.model.specs.Laws.{Bytes, Describes, ReadsExactly}
use Rattle.model.proofs.Exact.{Good, good_bind, on, Format, Found, Exact, exact_same}
use Rattle.model.proofs.Rows.{Lists, listed_exact}
use Rattle.model.proofs.Parts.{last, next, marked, last_exact, next_exact, marked_exact, framed_exact}
use Rattle.model.proofs.Records.{plain, fields_exact}
use Rattle.model.proofs.Classes.{attributes_exact, functions_exact, classes_exact}

abbrev pub module_format : Format Module
module_format = record { bytes = module_bytes; At = module_at; depth = module_depth }

abbrev pub modules_format : Format Modules
modules_format = record { bytes = modules_bytes; At = modules_at; depth = modules_depth }

modules_ind : (P : Modules → Type 0) → P no_module → ((m : Module) (ms : Modules) → P ms → P (add_module m ms)) → (ms : Modules) → P ms
modules_ind P n m no_module = n
modules_ind P n m (add_module c cs) = m c cs (modules_ind P n m cs)

pub modules_lists : Lists module_format modules_format modules_count no_module add_module
modules_lists = record {
  ind = modules_ind;
  size_none = refl;
  size_more = λ a l. refl;
  bytes-none = refl;
  bytes-more = λ a l. refl;
  at_none = λ p. tt;
  at_more = λ a l p x y. (x, y);
  at-parts = λ a l p h. h;
  depth_none = refl;
  depth_more = λ a l. refl;
}

abbrev ModuleFields : Type 0
ModuleFields = Modules × (ℕ × (Classes × (List Function × List Attribute)))

abbrev make_module : ℕ → Text → ModuleFields → Module
make_module q s x = pymodule q s x.0 x.1.0 x.1.1.0 x.1.1.1.0 x.1.1.1.1

module_ind : (P : Module → Type 0) → ((q : ℕ) (s : Text) (x : ModuleFields) → P (make_module q s x)) → (m : Module) → P m
module_ind P h (pymodule q s modules own classes functions attributes) = h q s (modules, (own, (classes, (functions, attributes))))

pub module_over_exact : (n d : ℕ) (one : List ℕ → Out Module) → Exact module_format n d one → Exact module_format n (suc d) (module_over n d one)
module_over_exact n d one x =
    framed_exact plain 4 n d (suc d) 1 (fields n 16)
    (next (listed n no_module add_module one) (marked n (next (classes n d) (next (functions n d) (last (attributes n d))))))
    make_module (fields_exact n 4)
    (next_exact (listed_exact n d one modules_lists x) (marked_exact (next_exact (classes_exact n d) (next_exact (functions_exact n d) (last_exact (attributes_exact n d))))))
    (record { ind = module_ind; bytes = λ q s x. refl; at = λ q s x p. (λ h. h, λ h. h); depth = λ q s x. (λ h. omega arith, λ h. omega arith) })

pub module-none : (n : ℕ) (bs : List ℕ) → one_module n 0 bs ≡ fault (place n bs)
unfolding one_module
module-none n bs = refl

pub module-step : (n d : ℕ) (bs : List ℕ) → one_module n (suc d) bs ≡ module_over n d (one_module n d) bs
unfolding one_module
module-step n d bs = refl

pub module_deep : (m : Module) → 1 ≤ module_depth m
module_deep (pymodule q s modules own classes functions attributes) = omega arith

pub module_exact : (n d : ℕ) → Exact module_format n d (one_module n d)
module_exact n zero = record {
  reads = λ p bs b h. rw (module-none n bs) tt;
  writes = λ p m r h at deep. absurd (omega (arith, module_deep m));
}
module_exact n (suc d) = exact_same (one_module n (suc d)) (module_over n d (one_module n d)) (module-step n d) (module_over_exact n d (one_module n d) (module_exact n d))

ended_reads : (n v : ℕ) (bs : List ℕ) (m : Module) (r : List ℕ) → v ≡ 1 → Found module_format 64 1 bs m r → Good (λ m _. Describes (v ∷ bs) m) (ended n m r)
ended_reads n v bs m [] e f = ((λ i. e i ∷ (f.is ∙ append-nil (module_bytes m)) i), (f.deep, f.at))
ended_reads n v bs m (x ∷ r) e f = tt

pub model_reads : (bs : List ℕ) → Bytes bs → Good (λ m _. Describes bs m) (model bs)
model_reads [] b = tt
model_reads (v ∷ bs) b =
    cond_both (eqb v 1) _ _ (Good (λ m _. Describes (v ∷ bs) m))
    (λ e. good_bind _ _ (one_module (suc (length bs)) 64 bs) (ended (suc (length bs))) ((module_exact (suc (length bs)) 64).reads 1 bs b.1 (omega arith)) (λ m r f. ended_reads (suc (length bs)) v bs m r (eqb-true v 1 e) f))
    (λ e. tt)

pub model_writes : (m : Module) → module_depth m ≤ 64 → module_at m 1 → model (encode m) ≡ read m []
model_writes m deep at =
    let n : ℕ = suc (length (module_bytes m)) in
    let same : module_bytes m ++ [] ≡ module_bytes m = append-nil (module_bytes m) in
    on (ended n) (one_module n 64 (module_bytes m)) (subst (λ bs. one_module n 64 bs ≡ read m []) same ((module_exact n 64).writes 1 m [] (rw same (omega arith)) at deep))

pub reads_exactly_lem : ReadsExactly
reads_exactly_lem bs b m = (λ e. subst (Good (λ m _. Describes bs m)) e (model_reads bs b), λ h. ap model h.0 ∙ model_writes m h.1.0 h.1.1)
