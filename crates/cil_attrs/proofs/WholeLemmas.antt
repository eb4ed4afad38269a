-- What is known of all sets of a name space, by the numbers of entries.
use Rattle.std.proofs.Common.{◌≡◌, ◌↔◌, ℕ, Bool, true, false, List, get_or, length, refl, sym, ◌∙◌, ap, subst}
use Rattle.std.specs.Prelude.{Contains, Some, slice_get}
use Rattle.cil_faults.specs.declared.fault.Fault.{Fault}
use Rattle.cil_syntax.specs.declared.kind.Kind.{Kind}
use Rattle.cil_syntax.specs.declared.kind.Kind.TheVariants as kinds
use Rattle.cil_syntax.specs.declared.kind.Sign.{Sign}
use Rattle.cil_known.specs.macros.Items.{Kept, items_in}
use Rattle.cil_known.specs.Family.{DependsOn, no_range}
use Rattle.cil_known.specs.Known.{enabled_in}
use Rattle.cil_known.specs.names.Laws.{MeansWhatItNames}
use Rattle.cil_known.specs.Numbers.{AreApart, has_section}
use Rattle.cil_known.specs.names.Symbols.{symbol_of}
use Rattle.cil_known.specs.Spaces.{SpaceOf, any_sets}
use Rattle.cil_known.specs.names.Entry.{Entry}
use Rattle.cil_known.specs.declared.known.Known.{Known}
use Rattle.cil_attrs.specs.declared.evaluator.Held.{Held}
use Rattle.cil_attrs.specs.declared.giver.SpaceKinds.{SpaceKinds}
use Rattle.cil_attrs.specs.declared.making.Given.{Given}
use Rattle.cil_attrs.specs.Givers.{AreGifts, HasKinds}
use Rattle.cil_attrs.specs.Holding.{is_kind}
use Rattle.cil_attrs.specs.Laws.{IsSpace}
use Rattle.cil_attrs.specs.Members.{AreBegun, AreMade, AreMembers, IsIn}
use Rattle.cil_attrs.specs.Order.{Depends, FallFor, IsAcyclic, at_once, further}
use Rattle.cil_attrs.specs.Plain.{ArePlain}
use Rattle.cil_attrs.specs.SetFaults.{SetFault}
use Rattle.cil_attrs.specs.Targets.{AreCircular}
use Rattle.cil_attrs.proofs.AcyclicLemmas.{no_circular}
use Rattle.cil_attrs.proofs.CircularLemmas.{IsSetOf, circular_is}
use Rattle.cil_attrs.proofs.FoundLemmas.{are_members}
use Rattle.cil_attrs.proofs.MembersLemmas.{kinds_of}
use Rattle.cil_attrs.proofs.SpaceLemmas.{HasOneEntry, items_apart, no_roles, one_of_space}

-- the same policy, its name space said otherwise
pub said_otherwise : (k : Known) (i : Kept) (r : SpaceKinds) (names : List (List ℕ)) (sections : Kind → List (List ℕ)) (which other : SpaceOf) → IsIn k i r names sections which → HasKinds r other → IsIn k i r names sections other
said_otherwise k i r names sections which other policy is = record { known = policy.known; is_space = is; named = ap sections (is.item ∙ sym policy.is_space.item) ∙ policy.named }

module _ (k : Known) (i : Kept) (r : SpaceKinds) (sign : Sign) (space : IsSpace r sign) (names : List (List ℕ)) (sections : Kind → List (List ℕ)) (which : SpaceOf) (policy : IsIn k i r names sections which)
    (law : MeansWhatItNames) (first : List Held) (are : AreBegun k i r first) (givens : List Given) (gifts : AreGifts k (items_in i) which i (items_in i) givens) (plain : ArePlain givens) where
  one : HasOneEntry k.lookup.namespaces.now k.lookup.names.now which
  one = one_of_space r sign space which policy.is_space k.lookup.namespaces.now policy.known.namespaces k.lookup.names.now policy.known.entries.ordered

  set_of : (d : ℕ) (e : Entry) → slice_get k.lookup.names.now d ≡ Some e → any_sets which (λ j. is_kind e.kind j.kind) ≡ true
      → IsSetOf k i r names sections which policy (items_apart r sign space) law first are givens gifts plain one d (symbol_of k.lookup.namespaces.now e)
  set_of d e at sets = record { entry = e; at = at; of_sets = sets; symbol = refl }

  depends_is : (d : ℕ) (e : Entry) → slice_get k.lookup.names.now d ≡ Some e → any_sets which (λ j. is_kind e.kind j.kind) ≡ true
      → Depends first givens d d ↔ DependsOn (items_in i) (enabled_in k) which no_range (symbol_of k.lookup.namespaces.now e) (symbol_of k.lookup.namespaces.now e)
  depends_is d e at sets =
      circular_is k i r names sections which policy (items_apart r sign space) law first are givens gifts plain one d (symbol_of k.lookup.namespaces.now e) (set_of d e at sets)

  pub are_circular : (on : List Bool) → ((d : ℕ) → (get_or on d false ≡ true) ↔ Depends first givens d d) → AreCircular k (items_in i) which on
  are_circular on flags d e at sets = let is = depends_is d e at sets in (λ t. is.0 ((flags d).0 t), λ q. (flags d).1 (is.1 q))

  -- what depends on something is a set that a statement gives something
  given_by : (a b : ℕ) → Depends first givens a b → (g : Given) × Contains givens g × (g.set ≡ a)
  given_by a b (at_once u v n) = (n.given, n.is_given, n.set)
  given_by a b (further u v w n d) = (n.given, n.is_given, n.set)

  pub are_acyclic : ((f : Fault) → SetFault (items_in i) (enabled_in k) which f → ⊥) → IsAcyclic first givens
  are_acyclic none d depends =
      let (g, c, same) = given_by d d depends in
      let set = (gifts.there g c).1.set in
      no_circular (items_in i) (enabled_in k) which none k policy.known.entries (kinds_of r which policy.is_space kinds.Role ∙ no_roles r sign space) g.set set.entry set.at set.live set.of_kind
      ((depends_is g.set set.entry set.at set.of_kind).0 (subst (λ z. Depends first givens z z) (sym same) depends))

  pub members_are : AreApart k.lookup.names.now (enabled_in k) k.numbers.now → (held : List Held) → AreMade k i names first givens held → (ranks : List ℕ) → FallFor first givens ranks
      → length first ≡ length k.lookup.names.now → AreMembers k (items_in i) sections which held
  members_are apart held made ranks fall len =
      are_members k i r names sections which policy (items_apart r sign space) law first are givens gifts plain one (ap has_section policy.is_space.item ∙ space.numbered) apart held made ranks fall len
