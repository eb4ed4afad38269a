-- One step of an import, and what it has made in the end.
use Rattle.std.proofs.Common.{◌≡◌, ℕ, ◌+◌, ◌-◌, ◌<◌, ◌≤◌, List, [], ◌∷◌, ◌++◌, length, take, drop, slice_range, refl, sym, ◌∙◌, subst, inl, inr, arith}
use Rattle.std.specs.Prelude.{Contains}
use Rattle.std.proofs.lemmas.List.{length_push}
use Rattle.std.proofs.lemmas.List.Elements.{Contains-push, Contains-push_cases}
use Rattle.cil_base.specs.Lists.{contains_none}
use Rattle.cil_sexpr.specs.Text.{IsReadable}
use Rattle.cil_modset.specs.declared.error.BundleError.{BundleError}
use Rattle.cil_modset.specs.declared.error.BundleError.TheVariants as errors
use Rattle.cil_modset.specs.declared.error.BundleFault.TheVariants.{BadMagic, Short, NotRising, BadModule, Trailing}
use Rattle.cil_modset.specs.Bundle.{AreBytes}
use Rattle.cil_modset.specs.Faults.{part_at, promised, HasHeader, HasModule, IsCut, AllBelow, HasFault}
use Rattle.cil_modset.specs.Modules.{IsBelow}
use Rattle.cil_modset.specs.NewTexts.{AreNew, HasPassed, IsLast, IsImportedUpTo, IsImportOf, RefusesModule}
use Rattle.cil_modset.specs.Refusal.{RefusesBundle}
use Rattle.cil_modset.proofs.BundleLemmas.{right_on, right_bundle}
use Rattle.cil_modset.proofs.RisingLemmas.{below_trans, rising_none}
use Rattle.cil_modset.proofs.WalkLemmas.{passed_none, new_none}

-- before the first module
pub import_none : (bytes : List ℕ) (ours : List (List ℕ)) → HasHeader bytes → IsImportedUpTo bytes ours [] 0 13 13 0
import_none bytes ours header = record {
  seen = [];
  index_is = refl;
  right = record {
    header = header;
    stand = refl;
    readable = record { rising = rising_none; readable = λ t c. absurd (contains_none t c) };
    within = header.within;
    promise = omega arith;
  };
  last = record {
    size = 0;
    ends = refl;
    stands = λ h. absurd (omega arith);
    above = λ text h t c. absurd (contains_none t c);
  };
  walk = passed_none ours;
  new = new_none ours;
}

-- the last module seen, once a module more was seen
last_on : (bytes text : List ℕ) (seen : List (List ℕ)) (at : ℕ) → HasModule bytes at text → AllBelow seen text
    → IsLast bytes (seen ++ text ∷ []) (at + 8) (at + 8 + length text)
last_on bytes text seen at m above = record {
  size = length text;
  ends = refl;
  stands = λ h. subst (λ (w : List ℕ). Contains (seen ++ text ∷ []) w) m.text_is (Contains-push seen text);
  above = λ later h t c.
      let below : IsBelow text later = subst (λ (w : List ℕ). IsBelow w later) (sym m.text_is) (h (omega (arith, length_push seen text))) in
      elim (Contains-push_cases seen text t c) [
        | inl d ↦ below_trans t text later (above t d) below
        | inr e ↦ subst (λ (w : List ℕ). IsBelow w later) e below
      ];
}

-- a module more was seen
pub imported_on : (bytes text : List ℕ) (ours fresh more : List (List ℕ)) (index start at passed further : ℕ)
    → (before : IsImportedUpTo bytes ours fresh index start at passed) → index < promised bytes → HasModule bytes at text
    → AllBelow before.seen text → IsReadable text → HasPassed ours (before.seen ++ text ∷ []) further → AreNew ours (before.seen ++ text ∷ []) more
    → IsImportedUpTo bytes ours more (index + 1) (at + 8) (at + 8 + length text) further
imported_on bytes text ours fresh more index start at passed further before promise m above reads walk new = record {
  seen = before.seen ++ text ∷ [];
  index_is = omega (arith, length_push before.seen text, before.index_is);
  right = right_on bytes text before.seen at before.right (omega (arith, before.index_is)) m above reads;
  last = last_on bytes text before.seen at m above;
  walk = walk;
  new = new;
}

-- the text comes behind all that was seen, if it comes behind the last of these
pub above_last : (bytes text : List ℕ) (seen : List (List ℕ)) (index start at : ℕ) → IsLast bytes seen start at → index ≡ length seen
    → (0 < index → IsBelow (slice_range bytes start at) text) → AllBelow seen text
above_last bytes text seen index start at last is below =
    last.above text (λ h.
    let size : at - start ≡ last.size = omega (arith, last.ends) in
    subst (λ (n : ℕ). IsBelow (take n (drop start bytes)) text) size (below (omega arith)))

-- a text that does not come behind the last of what was seen
pub falls_back : (bytes text : List ℕ) (ours fresh : List (List ℕ)) (index start at passed : ℕ) → IsImportedUpTo bytes ours fresh index start at passed
    → index < promised bytes → HasModule bytes at text → 0 < index → (IsBelow (slice_range bytes start at) text → ⊥) → HasFault bytes NotRising
falls_back bytes text ours fresh index start at passed before promise m some falls = inr (record {
  modules = before.seen;
  at = at;
  right = before.right;
  behind = (
    omega (arith, before.index_is),
    text,
    m,
    record {
      earlier = part_at bytes start before.last.size;
      stands = before.last.stands (omega (arith, before.index_is));
      falls = λ below.
          let size : before.last.size ≡ at - start = omega (arith, before.last.ends) in
          falls (subst (λ (n : ℕ). IsBelow (take n (drop start bytes)) text) size below);
    },
  );
})

pub cut_short : (bytes : List ℕ) (ours fresh : List (List ℕ)) (index start at passed : ℕ) → IsImportedUpTo bytes ours fresh index start at passed
    → index < promised bytes → IsCut bytes at → HasFault bytes Short
cut_short bytes ours fresh index start at passed before promise cut = inr (record {
  modules = before.seen;
  at = at;
  right = before.right;
  behind = (omega (arith, before.index_is), cut);
})

-- the fault of a module is that of the bundle
pub module_refused : (bytes text : List ℕ) (ours fresh : List (List ℕ)) (index start at passed : ℕ) (e : BundleError)
    → (before : IsImportedUpTo bytes ours fresh index start at passed) → index < promised bytes → HasModule bytes at text
    → AllBelow before.seen text → RefusesModule index text e → RefusesBundle bytes e
module_refused bytes text ours fresh index start at passed (errors.Fault (BadModule i fault)) before promise m above h = inr (record {
  modules = before.seen;
  at = at;
  right = before.right;
  behind = (omega (arith, before.index_is), text, m, above, h.0 ∙ before.index_is, h.1);
})
module_refused bytes text ours fresh index start at passed (errors.Fault BadMagic) before promise m above h = absurd h
module_refused bytes text ours fresh index start at passed (errors.Fault Short) before promise m above h = absurd h
module_refused bytes text ours fresh index start at passed (errors.Fault NotRising) before promise m above h = absurd h
module_refused bytes text ours fresh index start at passed (errors.Fault Trailing) before promise m above h = absurd h
module_refused bytes text ours fresh index start at passed errors.NoMemory before promise m above h = tt

-- all modules were seen and the bytes are at their end
pub import_whole : (bytes : List ℕ) (ours fresh : List (List ℕ)) (index start at passed : ℕ) → AreBytes bytes → IsImportedUpTo bytes ours fresh index start at passed
    → index ≡ promised bytes → length bytes ≤ at → IsImportOf bytes ours fresh
import_whole bytes ours fresh index start at passed h before all end = record {
  modules = before.seen;
  bundle = right_bundle bytes before.seen at h before.right (omega (arith, before.index_is)) (omega (arith, before.right.within));
  new = before.new;
}
