-- What is told of the aliases of a name space.
use Rattle.std.specs.Prelude.{◌⊎◌, ◌↔◌, Contains, Option, Some, map}
use Rattle.std.specs.Option.{is_some}
use Rattle.std.proofs.Common.{◌≡◌, ℕ, ◌<◌, List, length, not, sym, ◌∙◌, ap, subst}
use Rattle.cil_faults.specs.declared.code.FaultCode.TheVariants as causes
use Rattle.cil_faults.specs.declared.fault.Fault.{Fault}
use Rattle.cil_syntax.specs.declared.kind.Kind.{Kind}
use Rattle.cil_syntax.specs.declared.kind.Sign.{Sign}
use Rattle.cil_known.specs.macros.Items.{Kept, items_in, may_say_lists, says_as_written}
use Rattle.cil_known.specs.Known.{enabled_in}
use Rattle.cil_known.specs.Spaces.{Sets, SpaceOf}
use Rattle.cil_known.specs.declared.known.Known.{Known}
use Rattle.cil_attrs.specs.declared.giver.SetKind.{SetKind}
use Rattle.cil_attrs.specs.declared.giver.SpaceKinds.{SpaceKinds}
use Rattle.cil_attrs.specs.declared.targets.Step.{Step}
use Rattle.cil_attrs.specs.Givers.{AreSets, IsSets}
use Rattle.cil_attrs.specs.Laws.{IsSpace}
use Rattle.cil_attrs.specs.Members.{IsIn}
use Rattle.cil_attrs.specs.SetFaults.{AliasTwice, OpenAlias}
use Rattle.cil_attrs.specs.Targets.{AreLast, AreSteps, HasOther, IsToldAmong, IsToldIn, SaysTwo}
use Rattle.cil_attrs.proofs.FaultLemmas.{some_targets, step_says, step_within, targets_told}
use Rattle.cil_attrs.proofs.SpaceLemmas.{alias_written, one_of_space}

module _ (k : Known) (i : Kept) (r : SpaceKinds) (sign : Sign) (space : IsSpace r sign) (names : List (List ℕ)) (sections : Kind → List (List ℕ)) (which : SpaceOf) (policy : IsIn k i r names sections which)
    (aliases : SetKind) (e : r.aliases ≡ Some aliases) (steps : List Step) (given : (j : Sets) → IsSets aliases j → AreSteps k i r.item j steps) where
  abbrev sets : (j : Sets) × (which.aliases ≡ Some j) × IsSets aliases j
  sets = some_targets aliases which.aliases (subst (λ o. AreSets o which.aliases) e policy.is_space.aliases)

  are : AreSteps k i which.item sets.0 steps
  are = subst (λ item. AreSteps k i item sets.0 steps) (sym policy.is_space.item) (given sets.0 sets.2)

  pub alias_within : (s : Step) → Contains steps s → s.alias < length k.lookup.names.now
  alias_within s c = step_within k i which.item sets.0 steps are s c

  pub alias_says : (s : Step) → Contains steps s → SaysTwo i s
  alias_says s c = step_says k i which.item sets.0 steps are (λ keyword t.
      (ap says_as_written ((sets.2.giving keyword).0 t) ∙ (alias_written r sign space aliases e).written, ap may_say_lists ((sets.2.giving keyword).0 t) ∙ (alias_written r sign space aliases e).named)) s c

  pub alias_told : (lasts : List (Option ℕ)) → AreLast steps lasts → length lasts ≡ length k.lookup.names.now → (old middle new : List Fault)
      → ((f : Fault) → Contains middle f
      ↔ (Contains old f ⊎ IsToldIn k.lookup.namespaces.now k.lookup.names.now (items_in i) (enabled_in k) aliases.kind causes.AliasOpen (map (λ (o : Option ℕ). not (is_some o)) lasts) f))
      → ((f : Fault) → Contains new f ↔ (Contains middle f ⊎ IsToldAmong i (HasOther steps lasts) steps f))
      → (f : Fault) → Contains new f ↔ ((Contains old f ⊎ OpenAlias (items_in i) (enabled_in k) which f) ⊎ AliasTwice (items_in i) (enabled_in k) which f)
  alias_told lasts last len old middle new of_open of_twice =
      targets_told k i policy.known.entries which (one_of_space r sign space which policy.is_space k.lookup.namespaces.now policy.known.namespaces k.lookup.names.now policy.known.entries.ordered) sets.0 sets.1 steps are lasts last
      len old middle new
      (subst
      (λ kind. (f : Fault) → Contains middle f
      ↔ (Contains old f ⊎ IsToldIn k.lookup.namespaces.now k.lookup.names.now (items_in i) (enabled_in k) kind causes.AliasOpen (map (λ (o : Option ℕ). not (is_some o)) lasts) f))
      (sym sets.2.kind) of_open)
      of_twice
