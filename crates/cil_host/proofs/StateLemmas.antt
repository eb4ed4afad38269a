-- The model host after a load, and after a boolean was set.
use Rattle.std.specs.Prelude.{◌↔◌, Bool, Option, Some, Result, Ok, Err, IfErr}
use Rattle.std.specs.Result.{IsErrAnd}
use Rattle.std.specs.Option.{option_map}
use Rattle.std.proofs.Common.{◌≡◌, ℕ, List, refl, sym, ◌∙◌, ap, subst}
use Rattle.cil_base.specs.Lists.{Lists, text_cmp}
use Rattle.cil_table_bytes.specs.conditions.Bits.{IsOn, is_on}
use Rattle.cil_faults.specs.declared.failure.Failure.{Failure}
use Rattle.cil_faults.specs.declared.failure.Failure.TheVariants.{NoMemory}
use Rattle.cil_table_bytes.specs.tables.CompileAnswer.{IsCompiled}
use Rattle.cil_table_bytes.specs.tables.CompileRefusal.{CompileFails}
use Rattle.cil_table_bytes.specs.tables.Table.{boolean_names}
use Rattle.cil_avc.specs.decide_crate.Decides.{IsOnAtFirst}
use Rattle.cil_host.specs.declared.host.Loaded.{Loaded}
use Rattle.cil_host.specs.declared.host.Policy.{Policy}
use Rattle.cil_host.specs.Machine.{CanLoad, State, accepted_of, same_state}
use Rattle.cil_host.specs.Refusal.{IsPolicyOf, IsTold, Loads}
use Rattle.cil_host.specs.Sets.{HasBoolean, IsSet}
use Rattle.cil_host.specs.Settings.{IsDefaultOn, IsSetTo, on_names}
use Rattle.cil_host.proofs.SettingLemmas.{defaults_listed}

module _ (h : State) (m : List (List ℕ)) (v w : List ℕ) (o : Option Policy) (view : h ≡ record { modules = m; loaded = option_map (accepted_of v) o }) where
  modules_are : h.modules ≡ m
  modules_are = ap (λ s. s.modules) view

  -- a boolean of the loaded policy was set
  pub set_in : (p : Policy) → o ≡ Some p → (name : List ℕ) (value : Bool) → HasBoolean p.modules name → IsSetTo (accepted_of v p).on name value (accepted_of w p).on
      → IsSet h (record { modules = m; loaded = option_map (accepted_of w) o }) name value
  set_in p is name value a_boolean set = record {
    before = accepted_of v p;
    was_loaded = ap (λ s. s.loaded) view ∙ ap (option_map (accepted_of v)) is;
    a_boolean = a_boolean;
    on = (accepted_of w p).on;
    set = set;
    is = same_state _ _ (sym modules_are) (ap (option_map (accepted_of w)) is);
  }

  -- the modules of the host were compiled, and each boolean has its default
  pub loads : (k : List (List ℕ)) (p : Policy) (loaded : Loaded) → k ≡ m → IsPolicyOf k p loaded → ((n : ℕ) → IsOn w n ↔ IsOnAtFirst p.compiled.tables.booleans n)
      → Loads h (record { modules = m; loaded = Some (accepted_of w p) }) (Ok loaded)
  loads k p loaded same of first =
      let c = p.compiled in
      let is : IsCompiled m c = subst (λ z. IsCompiled z c) same of.compiled in
      let on = on_names (is_on w) (boolean_names c.tables.booleans) in (
        c.why.items,
        on,
        subst (λ z. CanLoad z c.why.items) (sym modules_are)
            (record { table = c.tables; compiles = is.compiles; items = is.items; enabled = is.enabled; policy = is.policy; right = is.right; first = is.first }),
        subst (λ z. Lists text_cmp (IsDefaultOn z) on) (sym modules_are) (defaults_listed m c.tables is.compiles w first),
        subst (λ z. IsTold z loaded) (sym modules_are) (record { table = c.tables; compiles = is.compiles; told = of.told }),
        same_state _ _ (sym modules_are) (ap (λ z. Some (record { modules = z; reasons = c.why.items; on = on })) (of.same ∙ same ∙ sym modules_are)),
      )

-- where there is no policy of the modules, nothing has changed
pub no_load : (h : State) (modules : List (List ℕ)) (failure : Failure) → modules ≡ h.modules → CompileFails modules failure → Loads h h (Err failure)
no_load h modules failure same fails = (subst (λ z. CompileFails z failure) same fails, refl)

-- where memory ran out, modules may compile
pub no_memory : {X : Type 0} (modules : List (List ℕ)) (r : Result X Failure) → IsErrAnd r (λ e. e ≡ NoMemory) → IfErr r (CompileFails modules)
no_memory modules (Ok x) is = tt
no_memory modules (Err failure) is = subst (CompileFails modules) (sym is) tt
