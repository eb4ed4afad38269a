-- Bytes have one first fault or are a bundle.
use Rattle.std.proofs.Common.{◌≡◌, ℕ, ◌+◌, ◌<◌, ◌≤◌, List, [], ◌∷◌, ◌++◌, length, refl, sym, ◌∙◌, ap, subst, inl, inr, arith}
use Rattle.std.specs.Prelude.{Contains}
use Rattle.std.proofs.lemmas.Bool.{cases_lt}
use Rattle.std.proofs.lemmas.List.{append-nil, length-append}
use Rattle.std.proofs.lemmas.List.Elements.{Contains-append_right}
use Rattle.cil_sexpr.specs.declared.fault.ReadFault.{ReadFault}
use Rattle.cil_sexpr.specs.Faults.{FaultOf}
use Rattle.cil_sexpr.specs.Laws as texts
use Rattle.cil_base.specs.Lists.{contains_here}
use Rattle.cil_sexpr.specs.Text.{IsReadable}
use Rattle.cil_modset.specs.declared.error.BundleFault.{BundleFault}
use Rattle.cil_modset.specs.declared.error.BundleFault.TheVariants.{BadMagic, Short, NotRising, BadModule, Trailing}
use Rattle.cil_modset.specs.Faults.{part_at, header_size, promised, HasHeader, HasModule, HasModules, IsCut, IsRightUpTo, AllBelow, IsNotAbove, HasHeaderFault, HasFaultBehind, HasLaterFault}
use Rattle.cil_modset.specs.Laws.{NeverBoth, HasOneFault}
use Rattle.cil_modset.proofs.RisingLemmas.{rising_across}
use Rattle.cil_modset.proofs.SpelledLemmas.{IsRightThrough, bundle_right}

-- ---- what stands at a place is one thing

module_one : (bytes a b : List ℕ) (at : ℕ) → HasModule bytes at a → HasModule bytes at b → a ≡ b
module_one bytes a b at p q =
    let size : length a ≡ length b = sym p.size ∙ q.size in
    p.text_is ∙ ap (λ (n : ℕ). part_at bytes (at + 8) n) size ∙ sym q.text_is

module_not_cut : (bytes text : List ℕ) (at : ℕ) → HasModule bytes at text → IsCut bytes at → ⊥
module_not_cut bytes text at m cut =
    elim cut [ inl h ↦ omega (arith, m.within, h) | inr h ↦ omega (arith, m.within, m.size, h) ]

not_above : (modules : List (List ℕ)) (text : List ℕ) → AllBelow modules text → IsNotAbove modules text → ⊥
not_above modules text above n = n.falls (above n.earlier n.stands)

-- the longer of two lists that stand from one place goes on where the shorter ends
pub record GoesOn (bytes : List ℕ) (shorter longer : List (List ℕ)) (from to : ℕ) : Type 0 where
  pub rest : List (List ℕ)
  pub is : longer ≡ shorter ++ rest
  pub stand : HasModules bytes from rest to

goes_on : (bytes : List ℕ) (shorter longer : List (List ℕ)) (from x y : ℕ) → HasModules bytes from shorter x → HasModules bytes from longer y
    → length shorter ≤ length longer → GoesOn bytes shorter longer x y
goes_on bytes [] longer from x y p q le = record { rest = longer; is = refl; stand = subst (λ (k : ℕ). HasModules bytes k longer y) p q }
goes_on bytes (a ∷ shorter) [] from x y p q le = absurd (omega (arith, le))
goes_on bytes (a ∷ shorter) (b ∷ longer) from x y p q le =
    let same : b ≡ a = module_one bytes b a from q.0 p.0 in
    let on = goes_on bytes shorter longer (from + 8 + length a) x y p.1
    (subst (λ (w : List ℕ). HasModules bytes (from + 8 + length w) longer y) same q.1) (omega (arith, le)) in
    record {
      rest = on.rest;
      is = ap (λ (w : List ℕ). w ∷ longer) same ∙ ap (λ (w : List (List ℕ)). a ∷ w) on.is;
      stand = on.stand;
    }

-- ---- a fault behind some modules, and more modules that are right

no_fault_before_module : texts.NeverBoth → (bytes text : List ℕ) (modules : List (List ℕ)) (at : ℕ) (fault : BundleFault) → HasModule bytes at text
    → length modules < promised bytes → AllBelow modules text → IsReadable text → HasFaultBehind bytes modules at fault → ⊥
no_fault_before_module law bytes text modules at BadMagic m more above reads h = h
no_fault_before_module law bytes text modules at Short m more above reads h = module_not_cut bytes text at m h.1
no_fault_before_module law bytes text modules at NotRising m more above reads h =
    let same : h.1 ≡ text = module_one bytes h.1 text at h.2 m in
    not_above modules text above (subst (λ (w : List ℕ). IsNotAbove modules w) same h.3)
no_fault_before_module law bytes text modules at (BadModule index fault) m more above reads h =
    let same : h.1 ≡ text = module_one bytes h.1 text at h.2 m in
    law text fault.code fault.at reads (subst (λ (w : List ℕ). FaultOf w fault.code fault.at) same h.5)
no_fault_before_module law bytes text modules at Trailing m more above reads h = omega (arith, h.0, more)

no_fault_before : texts.NeverBoth → (bytes : List ℕ) (less more : List (List ℕ)) (x y : ℕ) (fault : BundleFault) → IsRightUpTo bytes less x
    → IsRightUpTo bytes more y → length less < length more → HasFaultBehind bytes less x fault → ⊥
no_fault_before law bytes less more x y fault p q lt h =
    let on = goes_on bytes less more header_size x y p.stand q.stand (omega arith) in next on.rest on.is on.stand
  where
    next : (rest : List (List ℕ)) → more ≡ less ++ rest → HasModules bytes x rest y → ⊥
    next [] is stand = omega (arith, lt, ap length is, length-append less [])
    next (text ∷ rest) is stand =
        let within : Contains more text =
        subst (λ (w : List (List ℕ)). Contains w text) (sym is) (Contains-append_right less (text ∷ rest) text (contains_here text rest)) in
        no_fault_before_module law bytes text less x fault stand.0 (omega (arith, lt, q.promise))
        (λ earlier c. rising_across less (text ∷ rest) (rw is at q.readable.rising) earlier text c (contains_here text rest))
        (q.readable.readable text within) h

-- two lists of one length that stand from one place end at one place
same_stand : (bytes : List ℕ) (a b : List (List ℕ)) (from x y : ℕ) → HasModules bytes from a x → HasModules bytes from b y → length a ≡ length b
    → (b ≡ a) × (x ≡ y)
same_stand bytes a b from x y p q size =
    let on = goes_on bytes a b from x y p q (omega arith) in next on.rest on.is on.stand
  where
    next : (rest : List (List ℕ)) → b ≡ a ++ rest → HasModules bytes x rest y → (b ≡ a) × (x ≡ y)
    next [] is stand = (is ∙ append-nil a, stand)
    next (t ∷ rest) is stand = absurd (omega (arith, size, ap length is, length-append a (t ∷ rest)))

-- ---- the header

header_right : (bytes : List ℕ) (fault : BundleFault) → HasHeader bytes → HasHeaderFault bytes fault → ⊥
header_right bytes BadMagic header h = h.3 (header.magic_is h.0 h.1 h.2)
header_right bytes Short header h = omega (arith, header.within, h.1)
header_right bytes NotRising header h = h
header_right bytes (BadModule index fault) header h = h
header_right bytes Trailing header h = h

one_header_fault : (bytes : List ℕ) (a b : BundleFault) → HasHeaderFault bytes a → HasHeaderFault bytes b → a ≡ b
one_header_fault bytes BadMagic BadMagic p q = refl
one_header_fault bytes BadMagic Short p q = absurd (p.3 (q.0 p.0 p.1 p.2))
one_header_fault bytes BadMagic NotRising p q = absurd q
one_header_fault bytes BadMagic (BadModule index fault) p q = absurd q
one_header_fault bytes BadMagic Trailing p q = absurd q
one_header_fault bytes Short BadMagic p q = absurd (q.3 (p.0 q.0 q.1 q.2))
one_header_fault bytes Short Short p q = refl
one_header_fault bytes Short NotRising p q = absurd q
one_header_fault bytes Short (BadModule index fault) p q = absurd q
one_header_fault bytes Short Trailing p q = absurd q
one_header_fault bytes NotRising b p q = absurd p
one_header_fault bytes (BadModule index fault) b p q = absurd p
one_header_fault bytes Trailing b p q = absurd p

-- ---- one fault behind some modules

abbrev bad : ℕ → ReadFault → BundleFault
bad i f = BadModule i f

one_bad_module : texts.HasOneFault → (bytes a b : List ℕ) (at i j n : ℕ) (f g : ReadFault) → HasModule bytes at a → HasModule bytes at b → i ≡ n → j ≡ n
    → FaultOf a f.code f.at → FaultOf b g.code g.at → bad i f ≡ bad j g
one_bad_module law bytes a b at i j n f g p q pi qi pf qf =
    let same : b ≡ a = module_one bytes b a at q p in
    let one = law a f.code g.code f.at g.at pf (subst (λ (w : List ℕ). FaultOf w g.code g.at) same qf) in
    let index : i ≡ j = pi ∙ sym qi in
    λ k. BadModule (index k) (record { code = one.0 k; at = one.1 k })

one_fault_behind : texts.HasOneFault → (bytes : List ℕ) (modules : List (List ℕ)) (at : ℕ) (a b : BundleFault) → HasFaultBehind bytes modules at a
    → HasFaultBehind bytes modules at b → a ≡ b
one_fault_behind law bytes modules at BadMagic b p q = absurd p
one_fault_behind law bytes modules at Short BadMagic p q = absurd q
one_fault_behind law bytes modules at Short Short p q = refl
one_fault_behind law bytes modules at Short NotRising p q = absurd (module_not_cut bytes q.1 at q.2 p.1)
one_fault_behind law bytes modules at Short (BadModule i f) p q = absurd (module_not_cut bytes q.1 at q.2 p.1)
one_fault_behind law bytes modules at Short Trailing p q = absurd (omega (arith, p.0, q.0))
one_fault_behind law bytes modules at NotRising BadMagic p q = absurd q
one_fault_behind law bytes modules at NotRising Short p q = absurd (module_not_cut bytes p.1 at p.2 q.1)
one_fault_behind law bytes modules at NotRising NotRising p q = refl
one_fault_behind law bytes modules at NotRising (BadModule i f) p q =
    let same : p.1 ≡ q.1 = module_one bytes p.1 q.1 at p.2 q.2 in
    absurd (not_above modules q.1 q.3 (subst (λ (w : List ℕ). IsNotAbove modules w) same p.3))
one_fault_behind law bytes modules at NotRising Trailing p q = absurd (omega (arith, p.0, q.0))
one_fault_behind law bytes modules at (BadModule i f) BadMagic p q = absurd q
one_fault_behind law bytes modules at (BadModule i f) Short p q = absurd (module_not_cut bytes p.1 at p.2 q.1)
one_fault_behind law bytes modules at (BadModule i f) NotRising p q =
    let same : q.1 ≡ p.1 = module_one bytes q.1 p.1 at q.2 p.2 in
    absurd (not_above modules p.1 p.3 (subst (λ (w : List ℕ). IsNotAbove modules w) same q.3))
one_fault_behind law bytes modules at (BadModule i f) (BadModule j g) p q =
    one_bad_module law bytes p.1 q.1 at i j (length modules) f g p.2 q.2 p.4 q.4 p.5 q.5
one_fault_behind law bytes modules at (BadModule i f) Trailing p q = absurd (omega (arith, p.0, q.0))
one_fault_behind law bytes modules at Trailing BadMagic p q = absurd q
one_fault_behind law bytes modules at Trailing Short p q = absurd (omega (arith, p.0, q.0))
one_fault_behind law bytes modules at Trailing NotRising p q = absurd (omega (arith, p.0, q.0))
one_fault_behind law bytes modules at Trailing (BadModule i f) p q = absurd (omega (arith, p.0, q.0))
one_fault_behind law bytes modules at Trailing Trailing p q = refl

one_later_fault : texts.NeverBoth → texts.HasOneFault → (bytes : List ℕ) (a b : BundleFault) → HasLaterFault bytes a → HasLaterFault bytes b → a ≡ b
one_later_fault law one bytes a b p q =
    elim (cases_lt (length p.modules) (length q.modules)) [
      | inl lt ↦ absurd (no_fault_before law bytes p.modules q.modules p.at q.at a p.right q.right lt p.behind)
      | inr le ↦ elim (cases_lt (length q.modules) (length p.modules)) [
        | inl lt ↦ absurd (no_fault_before law bytes q.modules p.modules q.at p.at b q.right p.right lt q.behind)
        | inr ge ↦ let same = same_stand bytes p.modules q.modules header_size p.at q.at p.right.stand q.right.stand (omega arith) in
            one_fault_behind one bytes p.modules p.at a b p.behind
            (subst (λ (w : List (List ℕ)). HasFaultBehind bytes w p.at b) same.0
            (subst (λ (k : ℕ). HasFaultBehind bytes q.modules k b) (sym same.1) q.behind))
      ]
    ]

pub one_fault : texts.NeverBoth → texts.HasOneFault → HasOneFault
one_fault law one bytes a b (inl p) (inl q) = one_header_fault bytes a b p q
one_fault law one bytes a b (inl p) (inr q) = absurd (header_right bytes a q.right.header p)
one_fault law one bytes a b (inr p) (inl q) = absurd (header_right bytes b p.right.header q)
one_fault law one bytes a b (inr p) (inr q) = one_later_fault law one bytes a b p q

-- ---- a bundle has no fault

no_fault_at_end : (bytes : List ℕ) (modules : List (List ℕ)) (at : ℕ) (fault : BundleFault) → length modules ≡ promised bytes → at ≡ length bytes
    → HasFaultBehind bytes modules at fault → ⊥
no_fault_at_end bytes modules at BadMagic all end h = h
no_fault_at_end bytes modules at Short all end h = omega (arith, h.0, all)
no_fault_at_end bytes modules at NotRising all end h = omega (arith, h.0, all)
no_fault_at_end bytes modules at (BadModule index fault) all end h = omega (arith, h.0, all)
no_fault_at_end bytes modules at Trailing all end h = omega (arith, h.1, end)

no_later_fault : texts.NeverBoth → (bytes : List ℕ) (modules : List (List ℕ)) (fault : BundleFault) → IsRightThrough bytes modules → HasLaterFault bytes fault → ⊥
no_later_fault law bytes modules fault b p =
    elim (cases_lt (length p.modules) (length modules)) [
      | inl lt ↦ no_fault_before law bytes p.modules modules p.at (length bytes) fault p.right b.right lt p.behind
      | inr le ↦ let size : length p.modules ≡ length modules = omega (arith, p.right.promise, b.all) in
          let same = same_stand bytes p.modules modules header_size p.at (length bytes) p.right.stand b.right.stand size in
          no_fault_at_end bytes p.modules p.at fault (size ∙ b.all) same.1 p.behind
    ]

pub never_both : texts.NeverBoth → NeverBoth
never_both law bytes modules fault b (inl p) = header_right bytes fault (bundle_right bytes modules b).right.header p
never_both law bytes modules fault b (inr p) = no_later_fault law bytes modules fault (bundle_right bytes modules b) p
