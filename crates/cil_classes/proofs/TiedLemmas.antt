-- The bits of nodes are the permissions of what the nodes stand for.
use Rattle.std.specs.Prelude.{◌⊎◌, Contains, IsBitSet}
use Rattle.std.proofs.Common.{ℕ, List, sym, ◌∙◌, subst, inl, inr}
use Rattle.std.proofs.lemmas.Bool.{and_parts}
use Rattle.cil_syntax.specs.Scopes.{ScopedWord}
use Rattle.cil_syntax.specs.Terms.{Term}
use Rattle.cil_macros.specs.Item.{Item, OptSet}
use Rattle.cil_names.specs.Declarations.{Symbol}
use Rattle.cil_names.specs.Resolves.{has_permission}
use Rattle.cil_classes.specs.declared.assigned.Given.{Given}
use Rattle.cil_classes.specs.Assigned.{Has, own, through}
use Rattle.cil_classes.specs.Given.{HasPair, Holder, IsGiven, mapped, named, of_class, of_map, of_name}
use Rattle.cil_classes.specs.Least.{Holds}
use Rattle.cil_classes.specs.Tied.{AreExact, AreGivens, Direct, IsThere, Leads, direct, to_mapped, to_named}
use Rattle.cil_classes.specs.Values.{in_value_there}
use Rattle.cil_classes.proofs.ValueLemmas.{value_there}

module _ (xs : List Item) (s : OptSet) where
  pub of_direct : (cp : Term ScopedWord) (c : Symbol) (p : List ℕ) → Direct xs s cp c p → HasPair xs s cp c p
  of_direct cp c p (direct at word e d q stands value) = of_class at word e d q stands value

  pub of_leads : (cp : Term ScopedWord) (h : Holder) (c : Symbol) (p : List ℕ) → Leads xs s cp h → Holds xs s h c p → HasPair xs s cp c p
  of_leads cp h c p (to_mapped at word e m r stands value) held = of_map at word e held.given m c r p stands value held.is_given held.gives
  of_leads cp h c p (to_named word n stands) held = of_name word held.given n c p stands held.is_given held.gives

  -- the class permission leads to a holder that has the permission
  pub record IsLed (cp : Term ScopedWord) (c : Symbol) (p : List ℕ) : Type 0 where
    pub holder : Holder
    pub leads : Leads xs s cp holder
    pub holds : Holds xs s holder c p

  -- what it gives, it gives by itself, or it leads to what has it
  pub either_way : (cp : Term ScopedWord) (c : Symbol) (p : List ℕ) → HasPair xs s cp c p → Direct xs s cp c p ⊎ IsLed cp c p
  either_way cp c p (of_class at word e d q stands value) = inl (direct at word e d q stands value)
  either_way cp c p (of_map at word e inner m d r q stands value given pair) =
      inr (record { holder = mapped m r; leads = to_mapped at word e m r stands value; holds = record { given = inner; is_given = given; gives = pair } })
  either_way cp c p (of_name word inner n d q stands given pair) =
      inr (record { holder = named n; leads = to_named word n stands; holds = record { given = inner; is_given = given; gives = pair } })

  -- a permission in the value of an expression on a class map is one of the map
  led_there : (cp : Term ScopedWord) (h : Holder) → Leads xs s cp h → IsThere xs s h
  led_there cp h (to_mapped at word e m r stands value) = (and_parts (has_permission xs m r) (in_value_there e r) (sym (value_there (has_permission xs m) e r) ∙ value)).0
  led_there cp h (to_named word n stands) = tt

  pub is_there : (cp : Term ScopedWord) (h : Holder) → Leads xs s cp h → IsThere xs s h
  is_there cp h leads = led_there cp h leads

  module _ (node : ℕ → Holder → Type 0) (bit_of : (class_ bit : ℕ) → Symbol → List ℕ → Type 0) (givens : List Given) (are : AreGivens xs s node bit_of givens) where
    sound : (class_ v bit : ℕ) (h : Holder) (c : Symbol) (p : List ℕ) → node v h → bit_of class_ bit c p → Has givens class_ v bit → Holds xs s h c p
    sound class_ v bit h c p is_node is_bit (own g b cg same set) =
        let (k, cp, given, at, part) = are.only g cg in
        let one = are.one_holder g.to k h at is_node in
        record { given = cp; is_given = subst (λ j. IsGiven xs s j cp) one given; gives = of_direct cp c p ((part.bits class_ b c p is_bit).1 (same, set)) }
    sound class_ v bit h c p is_node is_bit (through g u b cg cu has) =
        let (k, cp, given, at, part) = are.only g cg in
        let one = are.one_holder g.to k h at is_node in
        let (l, at_u) = part.are_nodes u cu in
        let inner = sound class_ u b l c p at_u is_bit has in
        record { given = cp; is_given = subst (λ j. IsGiven xs s j cp) one given; gives = of_leads cp l c p ((part.leads u l at_u).1 cu) inner }

    complete : (class_ v bit : ℕ) (h : Holder) (c : Symbol) (p : List ℕ) (cp : Term ScopedWord) → node v h → bit_of class_ bit c p → IsGiven xs s h cp → HasPair xs s cp c p
        → Has givens class_ v bit
    complete class_ v bit h c p cp is_node is_bit given (of_class at word e d q stands value) =
        let (g, cg, to, part) = are.each h cp given (are.there v h is_node) in
        let both = (part.bits class_ bit d q is_bit).0 (direct at word e d q stands value) in
        subst (λ k. Has givens class_ k bit) (are.one_node g.to v h to is_node) (own g bit cg both.0 both.1)
    complete class_ v bit h c p cp is_node is_bit given (of_map at word e inner m d r q stands value more pair) =
        let (g, cg, to, part) = are.each h cp given (are.there v h is_node) in
        let (k, ck, there, rest) = are.each (mapped m r) inner more (is_there cp (mapped m r) (to_mapped at word e m r stands value)) in
        let had = complete class_ k.to bit (mapped m r) d q inner there is_bit more pair in
        subst (λ j. Has givens class_ j bit) (are.one_node g.to v h to is_node)
        (through g k.to bit cg ((part.leads k.to (mapped m r) there).0 (to_mapped at word e m r stands value)) had)
    complete class_ v bit h c p cp is_node is_bit given (of_name word inner n d q stands more pair) =
        let (g, cg, to, part) = are.each h cp given (are.there v h is_node) in
        let (k, ck, there, rest) = are.each (named n) inner more tt in
        let had = complete class_ k.to bit (named n) d q inner there is_bit more pair in
        subst (λ j. Has givens class_ j bit) (are.one_node g.to v h to is_node)
        (through g k.to bit cg ((part.leads k.to (named n) there).0 (to_named word n stands)) had)

    -- a node has just the bits of the permissions that its holder has
    pub exact : AreExact xs s node bit_of givens
    exact v class_ bit h c p is_node is_bit = (
      sound class_ v bit h c p is_node is_bit,
      λ held. complete class_ v bit h c p held.given is_node is_bit held.is_given held.gives,
    )

    -- a bit that a node has is that of a permission of a class
    pub has_bit_of : (class_ v bit : ℕ) → Has givens class_ v bit → (c : Symbol) × (p : List ℕ) × bit_of class_ bit c p
    has_bit_of class_ v bit (own g b cg same set) =
        let (k, cp, given, at, part) = are.only g cg in
        let (c, p, is) = part.of_bit b set in
        (c, p, subst (λ n. bit_of n b c p) same is)
    has_bit_of class_ v bit (through g u b cg cu has) = has_bit_of class_ u b has

    -- a statement gives the permission by itself
    pub record IsRoot (c : Symbol) (p : List ℕ) : Type 0 where
      pub given : Given
      pub among : Contains givens given
      pub bit : ℕ
      pub is_bit : bit_of given.part.class bit c p
      pub set : IsBitSet given.part.mask bit

    -- so does one for each permission that a holder has
    pub root_of : (h : Holder) (c : Symbol) (p : List ℕ) (cp : Term ScopedWord) → IsThere xs s h → IsGiven xs s h cp → HasPair xs s cp c p → IsRoot c p
    root_of h c p cp there given (of_class at word e d q stands value) =
        let (g, cg, to, part) = are.each h cp given there in
        let is = direct at word e d q stands value in
        let (bit, is_bit) = part.has_bit d q is in
        record { given = g; among = cg; bit = bit; is_bit = is_bit; set = ((part.bits g.part.class bit d q is_bit).0 is).1 }
    root_of h c p cp there given (of_map at word e inner m d r q stands value more pair) =
        root_of (mapped m r) d q inner (is_there cp (mapped m r) (to_mapped at word e m r stands value)) more pair
    root_of h c p cp there given (of_name word inner n d q stands more pair) = root_of (named n) d q inner tt more pair
