-- Where statements are written, by the numbers of namespaces.
use Rattle.std.proofs.Common.{◌≡◌, ◌⊎◌, ℕ, suc, ◌+◌, ◌≤◌, true, List, [], ◌∷◌, ◌++◌, length, get_or, refl, sym, ◌∙◌, ap, subst, inl, inr, arith}
use Rattle.std.specs.Prelude.{Option, None, Some}
use Rattle.std.specs.Option.{option_map}
use Rattle.std.proofs.lemmas.List.{get_or_append_left, length-append}
use Rattle.std.proofs.Math.Seq.{get_or-append_seam}
use Rattle.cil_base.specs.Places.{cons_head, cons_tail, not_there}
use Rattle.cil_syntax.specs.declared.program.Statement.{Statement}
use Rattle.cil_syntax.specs.Program.{IsNested, program_of}
use Rattle.cil_syntax.specs.Written.{Written}
use Rattle.cil_blocks.specs.declared.namespaces.Space.{Space}
use Rattle.cil_blocks.specs.declared.written.WrittenSpaces.{WrittenSpaces}
use Rattle.cil_blocks.specs.Contents.{is_block, name_of}
use Rattle.cil_blocks.specs.Entries.{nothing, statement_at}
use Rattle.cil_blocks.specs.Named.{full_at, inner_space, rank, space_in}
use Rattle.cil_blocks.specs.Namespaces.{AreNamespaces, IsGrown, IsNumber, space_at}
use Rattle.cil_blocks.specs.Numbers.{number_in}
use Rattle.cil_blocks.specs.Placing.{IsInherited, IsInside, IsThrough}
use Rattle.cil_blocks.specs.WrittenSpaces.{AreWritten, AreWrittenUpTo, NumberedName, number_round, numbered_name, under_at}
use Rattle.cil_blocks.proofs.NameLemmas.{block_space_in, get_none, space_under, under_before}
use Rattle.cil_blocks.proofs.NamespaceLemmas.{global_at, number_stays, same_number}

-- ---- the numbers of the first statements

global_number : (ss : List Space) → IsNumber ss [] 0
global_number ss = record { within = omega arith; is = global_at ss }

none_before : (ws : List Written) (spaces : WrittenSpaces) (o : Option ℕ) → rank o ≤ 0 → IsNumber spaces.namespaces (space_in ws o) (number_in spaces.numbers o)
none_before ws spaces None h = global_number spaces.namespaces
none_before ws spaces (Some k) h = absurd (omega (arith, h))

pub none_written : (ws : List Written) (spaces : WrittenSpaces) → spaces.numbers ≡ [] → AreWrittenUpTo ws 0 spaces
none_written ws spaces e = record { counted = ap length e; numbered = none_before ws spaces }

or_last : (j n : ℕ) → suc j ≤ n + 1 → (suc j ≤ n) ⊎ (j ≡ n)
or_last j n h = grind arith

-- one more
module _ (ws : List Written) (n k : ℕ) (old new : WrittenSpaces) (so : AreWrittenUpTo ws n old) (grown : IsGrown old.namespaces new.namespaces)
    (pushed : new.numbers ≡ old.numbers ++ k ∷ []) (is : IsNumber new.namespaces (space_in ws (Some n)) k) where
  kept : (o : Option ℕ) → rank o ≤ n → number_in new.numbers o ≡ number_in old.numbers o
  kept None h = refl
  kept (Some j) h =
      ap (λ ks. get_or ks j 0) pushed ∙ get_or_append_left old.numbers (k ∷ []) 0 j (let c = so.counted in omega (arith, h, c))

  earlier : (o : Option ℕ) → rank o ≤ n → IsNumber new.namespaces (space_in ws o) (number_in new.numbers o)
  earlier o h =
      subst (IsNumber new.namespaces (space_in ws o)) (sym (kept o h))
      (number_stays old.namespaces new.namespaces (space_in ws o) (number_in old.numbers o) grown (so.numbered o h))

  last : (j : ℕ) → j ≡ n → IsNumber new.namespaces (space_in ws (Some j)) (get_or new.numbers j 0)
  last j same =
      let at : get_or new.numbers j 0 ≡ k =
      ap (λ ks. get_or ks j 0) pushed ∙ ap (λ i. get_or (old.numbers ++ k ∷ []) i 0) (same ∙ sym so.counted) ∙ get_or-append_seam old.numbers k [] 0 in
      subst (IsNumber new.namespaces (space_in ws (Some j))) (sym at) (subst (λ i. IsNumber new.namespaces (space_in ws (Some i)) k) (sym same) is)

  each : (o : Option ℕ) → rank o ≤ n + 1 → IsNumber new.namespaces (space_in ws o) (number_in new.numbers o)
  each None h = earlier None (omega arith)
  each (Some j) h = elim (or_last j n h) [ inl below ↦ earlier (Some j) below | inr same ↦ last j same ]

  pub written_more : AreWrittenUpTo ws (n + 1) new
  written_more = record {
    counted = let l = ap length pushed ∙ length-append old.numbers (k ∷ []) in let c = so.counted in omega (arith, l, c);
    numbered = each;
  }

-- all of them
within_or_not : (k n : ℕ) → (suc k ≤ n) ⊎ (n ≤ k)
within_or_not k n = grind arith

module _ (ws : List Written) (spaces : WrittenSpaces) (so : AreWrittenUpTo ws (length ws) spaces) where
  -- behind the last statement nothing stands, in the global namespace
  behind : (k : ℕ) → length ws ≤ k → IsNumber spaces.namespaces (space_in ws (Some k)) (get_or spaces.numbers k 0)
  behind k over =
      subst (IsNumber spaces.namespaces (space_in ws (Some k)))
      (sym (get_none spaces.numbers k 0 (not_there spaces.numbers k (let c = so.counted in omega (arith, over, c)))))
      (subst (λ n. IsNumber spaces.namespaces n 0) (sym (ap inner_space (get_none ws k nothing (not_there ws k over)))) (global_number spaces.namespaces))

  all : (o : Option ℕ) → IsNumber spaces.namespaces (space_in ws o) (number_in spaces.numbers o)
  all None = so.numbered None (omega arith)
  all (Some k) = elim (within_or_not k (length ws)) [ inl below ↦ so.numbered (Some k) below | inr over ↦ behind k over ]

  pub all_written : AreNamespaces spaces.namespaces → AreWritten ws spaces
  all_written once = record { once = once; numbered = all }

-- ---- namespaces that are added

pub written_stays : (ws : List Written) (old new : WrittenSpaces) → AreNamespaces new.namespaces → IsGrown old.namespaces new.namespaces → new.numbers ≡ old.numbers
    → AreWritten ws old → AreWritten ws new
written_stays ws old new once grown same are = record {
  once = once;
  numbered = λ o. subst (λ ks. IsNumber new.namespaces (space_in ws o) (number_in ks o)) (sym same)
      (number_stays old.namespaces new.namespaces (space_in ws o) (number_in old.numbers o) grown (are.numbered o));
}

-- the namespace of a block, by the number of that round it
pub block_numbered : (ws : List Written) (old new : List Space) (block outer number : ℕ) (name : List ℕ) → is_block (statement_at ws block).statement.keyword ≡ true
    → name ≡ name_of (statement_at ws block) → IsNumber old (statement_at ws block).context.space outer → IsNumber new (name ∷ space_at old outer) number
    → IsNumber new (space_in ws (Some block)) number
block_numbered ws old new block outer number name is named round so =
    subst (λ m. IsNumber new m number) (ap (λ x. x ∷ space_at old outer) named ∙ ap (λ m. name_of (statement_at ws block) ∷ m) round.is ∙ sym (block_space_in ws block is)) so

-- ---- where a statement is written, and its full name

module _ (ss : List Statement) (nested : IsNested ss) (spaces : WrittenSpaces) where
  abbrev ws : List Written
  ws = program_of ss

  pub round_upto : (n : ℕ) → AreWrittenUpTo ws n spaces → IsNumber spaces.namespaces (statement_at ws n).context.space (number_round ss spaces.numbers n)
  round_upto n so =
      subst (λ m. IsNumber spaces.namespaces m (number_round ss spaces.numbers n)) (space_under ss nested n) (so.numbered (under_at ss n) (under_before ss nested n))

  module _ (are : AreWritten ws spaces) where
    pub round_written : (k : ℕ) → IsNumber spaces.namespaces (statement_at ws k).context.space (number_round ss spaces.numbers k)
    round_written k = subst (λ m. IsNumber spaces.namespaces m (number_round ss spaces.numbers k)) (space_under ss nested k) (are.numbered (under_at ss k))

    abbrev name_at : ℕ → NumberedName
    name_at = numbered_name ss spaces.numbers

    -- one name by numbers is one full name, and the other way round
    pub full_same : (i j : ℕ) → name_at i ≡ name_at j → full_at ws i ≡ full_at ws j
    full_same i j e =
        let own : name_of (statement_at ws i) ≡ name_of (statement_at ws j) = ap (λ (n : NumberedName). n.1) e in
        let round : (statement_at ws i).context.space ≡ (statement_at ws j).context.space =
        sym (round_written i).is ∙ ap (λ (n : NumberedName). space_at spaces.namespaces n.0) e ∙ (round_written j).is in
        λ t. own t ∷ round t

    pub number_same : (i j : ℕ) → full_at ws i ≡ full_at ws j → name_at i ≡ name_at j
    number_same i j e =
        let own = cons_head (name_of (statement_at ws i)) (name_of (statement_at ws j)) (statement_at ws i).context.space (statement_at ws j).context.space e in
        let round = cons_tail (name_of (statement_at ws i)) (name_of (statement_at ws j)) (statement_at ws i).context.space (statement_at ws j).context.space e in
        let number : number_round ss spaces.numbers i ≡ number_round ss spaces.numbers j =
        same_number spaces.namespaces are.once (statement_at ws j).context.space (number_round ss spaces.numbers i) (number_round ss spaces.numbers j)
        (subst (λ n. IsNumber spaces.namespaces n (number_round ss spaces.numbers i)) round (round_written i)) (round_written j) in
        λ t. (number t, own t)

-- ---- what is inherited

-- it stands where it is inherited, and its block is written in the namespace of this number
pub inherited_inside : (ws : List Written) (ss : List Space) (outer number block space : ℕ) (o : Option ℕ) → o ≡ Some block → IsInherited ws number o
    → IsNumber ss (statement_at ws block).context.space space → IsInside ws ss ss outer number outer (Some space)
inherited_inside ws ss outer number block space o e so is =
    subst (λ b. IsThrough ss ss outer (statement_at ws number) b outer (Some space)) (sym (ap (option_map (statement_at ws)) e) ∙ so) (refl, (space, refl, is))
