-- A line asks for what it is spelled as.
use Rattle.std.specs.Prelude.{◌≡◌, ◌⊎◌, ℕ, ◌+◌, ◌-◌, ◌*◌, ◌/◌, ◌%◌, ◌^◌, ◌<◌, ◌≤◌, Bool, true, false, cond, not, ◌&&◌, ◌==◌, nat_le, Contains, decimal, codes}
use Rattle.std.specs.Cmp.Lexicographic.{bytes_decides}
use Rattle.std.specs.List.{All, fold, join_with_byte, list_all, onto_first}
use Rattle.std.proofs.Common.{List, [], ◌∷◌, ◌++◌, get_or, refl, sym, ◌∙◌, ap, ap₂, subst, subst₂, arith, inl, inr, ne_eqb, append-nil, append_assoc}
use Rattle.std.proofs.lemmas.Bool.{and_parts, cond_both, and_from, eqb-false, false_from_ne_true, leb-true, leb-false, le-leb, true≢false}
use Rattle.std.proofs.lemmas.Fmt.{decimal_by_steps, decimal_digit, decimal_step}
use Rattle.std.proofs.lemmas.List.Elements.{All-from_get_or, All-nil, All-push}
use Rattle.std.proofs.lemmas.List.Folds.{list_all-append}
use Rattle.std.proofs.lemmas.List.Splits.{join_with_byte-slice_split, slice_split_at, slice_split_none}
use Rattle.std.proofs.lemmas.List.Sums.{fold-append}
use Rattle.cil_base.specs.Lists.{contains_cases, contains_none}
use Rattle.cil_syntax.specs.Spelling.{same_bytes}
use Rattle.cil_server.specs.Asked.{Line, alone, announced, asked, bodied, by_words, checked, is_decimal, is_digit, longest_body, queried, switched, value_of, valued, words_of}
use Rattle.cil_server.specs.Asked.Line.{Export, List_, Load, Optionals, Quit, Why, Ask, Check, Set, Install, Import, TooBig, Unknown}
use Rattle.cil_server.specs.Laws.{AskedAsSpelled, ReadAsWritten}
use Rattle.cil_server.specs.Lines.{IsDecimal, IsWord, IsSpelled}
use Rattle.cil_server.specs.Lines.IsDecimal.{digit, more}
use Rattle.cil_server.specs.Lines.IsSpelled.{export, list, load, optionals, quit, why, install, import_, install_too_big, import_too_big, ask, check, set_on, set_off}

-- ---- numbers

-- what one digit more makes of a number
abbrev step : ℕ → ℕ → ℕ
step n d = n * 10 + (d - 48)

-- a byte that is a digit is that of its value
digit_at : (b : ℕ) → is_digit b ≡ true → (d : ℕ) × (d ≤ 9) × (b ≡ 48 + d)
digit_at b e =
    let parts = and_parts (nat_le 48 b) (nat_le b 57) e in
    let low : 48 ≤ b = leb-true 48 b parts.0 in
    let high : b ≤ 57 = leb-true b 57 parts.1 in
    (b - 48, omega arith, omega arith)

is_digit_of : (d : ℕ) → d ≤ 9 → is_digit (48 + d) ≡ true
is_digit_of d h = ap₂ (λ a b. a && b) (le-leb 48 (48 + d) (omega arith)) (le-leb (48 + d) 57 (omega arith))

one_digit : (b : ℕ) → is_digit b ≡ true → IsDecimal (b ∷ []) (step 0 b)
one_digit b e = let d = digit_at b e in subst₂ (λ x y. IsDecimal (x ∷ []) y) (sym d.2) (omega (arith, d.2)) (digit d.0 d.1)

-- one digit behind a number that is not 0, and several
next_digit : (front : List ℕ) (n b : ℕ) → IsDecimal front n → 0 < n → is_digit b ≡ true → IsDecimal (front ++ b ∷ []) (step n b)
next_digit front n b is some e =
    let d = digit_at b e in subst₂ (λ x y. IsDecimal (front ++ x ∷ []) y) (sym d.2) (omega (arith, d.2)) (more front n d.0 is some d.1)

digits_behind : (front digits : List ℕ) (n : ℕ) → IsDecimal front n → 0 < n → list_all is_digit digits ≡ true
    → IsDecimal (front ++ digits) (fold step n digits)
digits_behind front [] n is some all = subst (λ l. IsDecimal l n) (sym (append-nil front)) is
digits_behind front (b ∷ bs) n is some all =
    let parts = and_parts (is_digit b) (list_all is_digit bs) all in
    subst (λ l. IsDecimal l (fold step (step n b) bs)) (append_assoc front (b ∷ []) bs)
    (digits_behind (front ++ b ∷ []) bs (step n b) (next_digit front n b is some parts.0) (omega arith) parts.1)

not_zero : (b : ℕ) → is_digit b ≡ true → not (b == 48) ≡ true → 0 < step 0 b
not_zero b e other = let d = digit_at b e in grind (arith, d.2)

-- what is read as a decimal is one
pub decimal_read : (digits : List ℕ) → is_decimal digits ≡ true → IsDecimal digits (value_of digits)
unfolding value_of
decimal_read [] e = absurd (true≢false (sym e))
decimal_read (b ∷ []) e = one_digit b e
decimal_read (b ∷ c ∷ cs) e =
    let parts = and_parts (not (b == 48)) (list_all is_digit (b ∷ c ∷ cs)) e in
    let all = and_parts (is_digit b) (list_all is_digit (c ∷ cs)) parts.1 in
    digits_behind (b ∷ []) (c ∷ cs) (step 0 b) (one_digit b all.0) (not_zero b all.0 parts.0) all.1

-- a decimal that is not 0, with one digit more, is read as a decimal
one_more : (digits : List ℕ) (d : ℕ) → is_decimal digits ≡ true → 0 < value_of digits → d ≤ 9 → is_decimal (digits ++ (48 + d) ∷ []) ≡ true
unfolding value_of
one_more [] d e some h = absurd (true≢false (sym e))
one_more (b ∷ []) d e some h = ap₂ (λ x y. not x && (y && (is_digit (48 + d) && true))) (differ b some) e ∙ ap (λ x. x && true) (is_digit_of d h)
  where
    differ : (n : ℕ) → 0 < 0 * 10 + (n - 48) → (n == 48) ≡ false
    differ n o = grind arith
one_more (b ∷ c ∷ cs) d e some h =
    let parts = and_parts (not (b == 48)) (list_all is_digit (b ∷ c ∷ cs)) e in
    ap₂ (λ x y. x && y) parts.0 (list_all-append is_digit (b ∷ c ∷ cs) ((48 + d) ∷ []) ∙ ap₂ (λ x y. x && (y && true)) parts.1 (is_digit_of d h))

-- a decimal is read as one, and as its number
pub decimal_spelled : (digits : List ℕ) (n : ℕ) → IsDecimal digits n → (is_decimal digits ≡ true) × (value_of digits ≡ n)
unfolding value_of
decimal_spelled digits n (digit d h) = (is_digit_of d h, omega arith)
decimal_spelled digits n (more front m d is some h) =
    let before = decimal_spelled front m is in
    let same = before.1 in
    let lean = one_more front d before.0 (omega (arith, same, some)) h in
    (lean, fold-append step 0 front ((48 + d) ∷ []) ∙ omega (arith, same))

-- ---- words

-- the byte is no space, as the test of the definition says it
abbrev IsPlain : ℕ → Type 0
IsPlain b = (b == 32) ≡ false

-- no byte is a space
abbrev HasNoSpace : List ℕ → Type 0
HasNoSpace bytes = Contains bytes 32 → ⊥

-- what is told of a line: nothing, or what it is spelled as
abbrev IsToldBy : List ℕ → Line → Type 0
IsToldBy line said = (said ≡ Unknown) ⊎ IsSpelled line said

plain : (w : List ℕ) → HasNoSpace w → All IsPlain w
plain w none = All-from_get_or IsPlain w 32 (λ i l. ne_eqb (get_or w i 32) 32 (λ e. none (i, l, e)))

decimal_plain : (digits : List ℕ) (n : ℕ) → IsDecimal digits n → All IsPlain digits
decimal_plain digits n (digit d h) = All-push IsPlain [] (48 + d) (All-nil IsPlain) (ne_eqb (48 + d) 32 (λ e. omega (arith, e)))
decimal_plain digits n (more front m d is some h) = All-push IsPlain front (48 + d) (decimal_plain front m is) (ne_eqb (48 + d) 32 (λ e. omega (arith, e)))

one_word : (w : List ℕ) → All IsPlain w → words_of w ≡ w ∷ []
one_word w p = slice_split_none (λ b. b == 32) w p

three_words : (s t c : List ℕ) → IsWord s → IsWord t → IsWord c → words_of (s ++ 32 ∷ (t ++ 32 ∷ c)) ≡ s ∷ t ∷ c ∷ []
three_words s t c p q r =
    slice_split_at (λ b. b == 32) s 32 (t ++ 32 ∷ c) (plain s p.whole) refl
    ∙ ap (λ ws. s ∷ ws) (slice_split_at (λ b. b == 32) t 32 c (plain t q.whole) refl ∙ ap (λ ws. t ∷ ws) (one_word c (plain c r.whole)))

-- no word has a space
abbrev AreWhole : List (List ℕ) → Type 0
AreWhole [] = Unit {0}
AreWhole (w ∷ ws) = HasNoSpace w × AreWhole ws

whole_onto : (b : ℕ) (ws : List (List ℕ)) → (b ≡ 32 → ⊥) → AreWhole ws → AreWhole (onto_first b ws)
whole_onto b [] other all = ((λ c. elim (contains_cases 32 b [] c) [ inl e ↦ other e | inr d ↦ contains_none 32 d ]), tt)
whole_onto b (w ∷ ws) other all = ((λ c. elim (contains_cases 32 b w c) [ inl e ↦ other e | inr d ↦ all.0 d ]), all.1)

whole_next : (b : ℕ) (ws : List (List ℕ)) → AreWhole ws → AreWhole (cond (b == 32) ([] ∷ ws) (onto_first b ws))
whole_next b ws all = cond_both (b == 32) ([] ∷ ws) (onto_first b ws) AreWhole (λ e. (contains_none 32, all)) (λ e. whole_onto b ws (eqb-false b 32 e) all)

words_whole : (bytes : List ℕ) → AreWhole (words_of bytes)
words_whole [] = (contains_none 32, tt)
words_whole (b ∷ bs) = whole_next b (words_of bs) (words_whole bs)

-- ---- from the spelling to what is asked for

body_fits : (form : ℕ → Line) (n : ℕ) → n ≤ longest_body → bodied form n ≡ form n
body_fits form n h = ap (λ b. cond b (form n) TooBig) (le-leb n longest_body h)

body_too_big : (form : ℕ → Line) (n : ℕ) → longest_body < n → bodied form n ≡ TooBig
body_too_big form n h = ap (λ b. cond b (form n) TooBig) (false_from_ne_true (nat_le n longest_body) (λ e. omega (arith, leb-true n longest_body e)))

-- what the two words that announce a body ask for
install_asked : (digits : List ℕ) (n : ℕ) → IsDecimal digits n → asked (codes "INSTALL " ++ digits) ≡ bodied Install n
unfolding asked announced
install_asked digits n is =
    let read = decimal_spelled digits n is in
    ap (λ ws. by_words (codes "INSTALL" ∷ ws)) (one_word digits (decimal_plain digits n is)) ∙ ap₂ (λ b v. cond (not b) Unknown (bodied Install v)) read.0 read.1

import_asked : (digits : List ℕ) (n : ℕ) → IsDecimal digits n → asked (codes "IMPORT " ++ digits) ≡ bodied Import n
unfolding asked announced
import_asked digits n is =
    let read = decimal_spelled digits n is in
    ap (λ ws. by_words (codes "IMPORT" ∷ ws)) (one_word digits (decimal_plain digits n is)) ∙ ap₂ (λ b v. cond (not b) Unknown (bodied Import v)) read.0 read.1

not_empty : (w : List ℕ) → IsWord w → not (same_bytes w []) ≡ true
not_empty [] p = absurd (omega (arith, p.some))
not_empty (b ∷ bs) p = refl

ask_asked : (s t c : List ℕ) → IsWord s → IsWord t → IsWord c → asked (codes "AV " ++ s ++ 32 ∷ t ++ 32 ∷ c) ≡ Ask s t c
unfolding asked queried
ask_asked s t c p q r =
    ap (λ l. asked (codes "AV " ++ l)) (append_assoc s (32 ∷ t) (32 ∷ c)) ∙ ap (λ ws. by_words (codes "AV" ∷ ws)) (three_words s t c p q r)
    ∙ ap (λ b. cond b (Ask s t c) Unknown) (and_from _ _ (and_from _ _ (not_empty s p) (not_empty t q)) (not_empty c r))

four_words : (s t c p : List ℕ) → IsWord s → IsWord t → IsWord c → IsWord p → words_of (s ++ 32 ∷ (t ++ 32 ∷ (c ++ 32 ∷ p))) ≡ s ∷ t ∷ c ∷ p ∷ []
four_words s t c p u v w x = slice_split_at (λ b. b == 32) s 32 (t ++ 32 ∷ (c ++ 32 ∷ p)) (plain s u.whole) refl ∙ ap (λ ws. s ∷ ws) (three_words t c p v w x)

check_asked : (s t c p : List ℕ) → IsWord s → IsWord t → IsWord c → IsWord p → asked (codes "CHECK " ++ (s ++ 32 ∷ (t ++ 32 ∷ (c ++ 32 ∷ p)))) ≡ Check s t c p
unfolding asked checked
check_asked s t c p u v w x =
    ap (λ ws. by_words (codes "CHECK" ∷ ws)) (four_words s t c p u v w x)
    ∙ ap (λ b. cond b (Check s t c p) Unknown) (and_from _ _ (and_from _ _ (and_from _ _ (not_empty s u) (not_empty t v)) (not_empty c w)) (not_empty p x))

two_words : (b v : List ℕ) → IsWord b → IsWord v → words_of (b ++ 32 ∷ v) ≡ b ∷ v ∷ []
two_words b v p q = slice_split_at (λ b. b == 32) b 32 v (plain b p.whole) refl ∙ ap (λ ws. b ∷ ws) (one_word v (plain v q.whole))

no_space : (w : List ℕ) → list_all (λ b. not (b == 32)) w ≡ true → HasNoSpace w
no_space [] e c = contains_none 32 c
no_space (b ∷ bs) e c =
    let parts = and_parts (not (b == 32)) (list_all (λ b. not (b == 32)) bs) e in
    elim (contains_cases 32 b bs c) [
      | inl same ↦ true≢false (sym (subst (λ z. not (z == 32) ≡ true) same parts.0))
      | inr d ↦ no_space bs parts.1 d
    ]

value_word : (b : ℕ) (bs : List ℕ) → list_all (λ b. not (b == 32)) (b ∷ bs) ≡ true → IsWord (b ∷ bs)
value_word b bs e = record { some = omega arith; whole = no_space (b ∷ bs) e }

on_word : IsWord (codes "true")
on_word = value_word 116 (codes "rue") refl

off_word : IsWord (codes "false")
off_word = value_word 102 (codes "alse") refl

valued_on : (b : List ℕ) → valued b (codes "true") ≡ Set b true
unfolding valued
valued_on b = refl

valued_off : (b : List ℕ) → valued b (codes "false") ≡ Set b false
unfolding valued
valued_off b = refl

set_asked : (b v : List ℕ) (value : Bool) → IsWord b → IsWord v → valued b v ≡ Set b value → asked (codes "SET " ++ (b ++ 32 ∷ v)) ≡ Set b value
unfolding asked switched
set_asked b v value p q is =
    ap (λ ws. by_words (codes "SET" ∷ ws)) (two_words b v p q) ∙ ap (λ c. cond c (valued b v) Unknown) (not_empty b p) ∙ is

pub spelled_asked : (line : List ℕ) (said : Line) → IsSpelled line said → asked line ≡ said
unfolding asked alone
spelled_asked line said export = refl
spelled_asked line said list = refl
spelled_asked line said load = refl
spelled_asked line said optionals = refl
spelled_asked line said quit = refl
spelled_asked line said why = refl
spelled_asked line said (install digits n is h) = install_asked digits n is ∙ body_fits Install n h
spelled_asked line said (import_ digits n is h) = import_asked digits n is ∙ body_fits Import n h
spelled_asked line said (install_too_big digits n is h) = install_asked digits n is ∙ body_too_big Install n h
spelled_asked line said (import_too_big digits n is h) = import_asked digits n is ∙ body_too_big Import n h
spelled_asked line said (ask s t c p q r) = ask_asked s t c p q r
spelled_asked line said (check s t c p u v w x) = check_asked s t c p u v w x
spelled_asked line said (set_on b p) = set_asked b (codes "true") true p on_word (valued_on b)
spelled_asked line said (set_off b p) = set_asked b (codes "false") false p off_word (valued_off b)

-- ---- and back

-- a word in the code, and what is told where the word is another one
choose : (line w word : List ℕ) (said rest : Line) → (w ≡ word → IsToldBy line said) → IsToldBy line rest
    → IsToldBy line (cond (same_bytes w word) said rest)
choose line w word said rest p q = cond_both (same_bytes w word) said rest (IsToldBy line) (λ e. p ((bytes_decides w word).0 e)) (λ e. q)

alone_told : (w : List ℕ) → IsToldBy w (alone w)
unfolding alone
alone_told w =
    choose w w (codes "EXPORT") Export _ (λ e. inr (subst (λ l. IsSpelled l Export) (sym e) export))
    (choose w w (codes "LIST") List_ _ (λ e. inr (subst (λ l. IsSpelled l List_) (sym e) list))
    (choose w w (codes "LOAD") Load _ (λ e. inr (subst (λ l. IsSpelled l Load) (sym e) load))
    (choose w w (codes "OPTIONALS") Optionals _ (λ e. inr (subst (λ l. IsSpelled l Optionals) (sym e) optionals))
    (choose w w (codes "QUIT") Quit _ (λ e. inr (subst (λ l. IsSpelled l Quit) (sym e) quit))
    (choose w w (codes "WHY") Why _ (λ e. inr (subst (λ l. IsSpelled l Why) (sym e) why)) (inl refl))))))

body_told : (line : List ℕ) (form : ℕ → Line) (n : ℕ) → (n ≤ longest_body → IsSpelled line (form n)) → (longest_body < n → IsSpelled line TooBig)
    → IsToldBy line (bodied form n)
body_told line form n p q =
    cond_both (nat_le n longest_body) (form n) TooBig (IsToldBy line) (λ e. inr (p (leb-true n longest_body e))) (λ e. inr (q (leb-false n longest_body e)))

module _ (word digits : List ℕ) (n : ℕ) (is : IsDecimal digits n) where
  install_told : word ≡ codes "INSTALL" → IsToldBy (word ++ 32 ∷ digits) (bodied Install n)
  install_told e =
      subst (λ w. IsToldBy (w ++ 32 ∷ digits) (bodied Install n)) (sym e)
      (body_told (codes "INSTALL " ++ digits) Install n (install digits n is) (install_too_big digits n is))

  import_told : word ≡ codes "IMPORT" → IsToldBy (word ++ 32 ∷ digits) (bodied Import n)
  import_told e =
      subst (λ w. IsToldBy (w ++ 32 ∷ digits) (bodied Import n)) (sym e)
      (body_told (codes "IMPORT " ++ digits) Import n (import_ digits n is) (import_too_big digits n is))

not_not : (b : Bool) → not b ≡ false → b ≡ true
not_not true e = refl
not_not false e = sym e

announced_told : (word digits : List ℕ) → IsToldBy (word ++ 32 ∷ digits) (announced word digits)
unfolding announced
announced_told word digits =
    cond_both (not (is_decimal digits)) Unknown _ (IsToldBy (word ++ 32 ∷ digits)) (λ e. inl refl) (λ e.
    let is = decimal_read digits (not_not (is_decimal digits) e) in
    choose (word ++ 32 ∷ digits) word (codes "INSTALL") _ _ (install_told word digits (value_of digits) is)
    (choose (word ++ 32 ∷ digits) word (codes "IMPORT") _ _ (import_told word digits (value_of digits) is) (inl refl)))

is_word : (w : List ℕ) → not (same_bytes w []) ≡ true → HasNoSpace w → IsWord w
is_word [] e p = absurd (true≢false (sym e))
is_word (b ∷ bs) e p = record { some = omega arith; whole = p }

queried_told : (word s t c : List ℕ) → HasNoSpace s → HasNoSpace t → HasNoSpace c → IsToldBy (word ++ 32 ∷ (s ++ 32 ∷ (t ++ 32 ∷ c))) (queried word s t c)
unfolding queried
queried_told word s t c p q r =
    cond_both _ (Ask s t c) Unknown (IsToldBy (word ++ 32 ∷ (s ++ 32 ∷ (t ++ 32 ∷ c)))) (λ e.
    let last = and_parts _ (not (same_bytes c [])) e in
    let third = and_parts _ (not (same_bytes t [])) last.0 in
    let second = and_parts (same_bytes word (codes "AV")) (not (same_bytes s [])) third.0 in
    let is : word ≡ codes "AV" = (bytes_decides word (codes "AV")).0 second.0 in
    inr (subst₂ (λ w l. IsSpelled (w ++ 32 ∷ l) (Ask s t c)) (sym is) (append_assoc s (32 ∷ t) (32 ∷ c))
    (ask s t c (is_word s second.1 p) (is_word t third.1 q) (is_word c last.1 r)))) (λ e. inl refl)

checked_told : (word s t c p : List ℕ) → HasNoSpace s → HasNoSpace t → HasNoSpace c → HasNoSpace p
    → IsToldBy (word ++ 32 ∷ (s ++ 32 ∷ (t ++ 32 ∷ (c ++ 32 ∷ p)))) (checked word s t c p)
unfolding checked
checked_told word s t c p u v w x =
    cond_both _ (Check s t c p) Unknown (IsToldBy (word ++ 32 ∷ (s ++ 32 ∷ (t ++ 32 ∷ (c ++ 32 ∷ p))))) (λ e.
    let last = and_parts _ (not (same_bytes p [])) e in
    let fourth = and_parts _ (not (same_bytes c [])) last.0 in
    let third = and_parts _ (not (same_bytes t [])) fourth.0 in
    let second = and_parts (same_bytes word (codes "CHECK")) (not (same_bytes s [])) third.0 in
    let is : word ≡ codes "CHECK" = (bytes_decides word (codes "CHECK")).0 second.0 in
    inr (subst (λ z. IsSpelled (z ++ 32 ∷ (s ++ 32 ∷ (t ++ 32 ∷ (c ++ 32 ∷ p)))) (Check s t c p)) (sym is)
    (check s t c p (is_word s second.1 u) (is_word t third.1 v) (is_word c fourth.1 w) (is_word p last.1 x)))) (λ e. inl refl)

-- one value of a boolean, and what is told of another
valued_told : (name value : List ℕ) → IsWord name → IsToldBy (codes "SET " ++ (name ++ 32 ∷ value)) (valued name value)
unfolding valued
valued_told name value p =
    choose (codes "SET " ++ (name ++ 32 ∷ value)) value (codes "true") (Set name true) _
    (λ e. inr (subst (λ v. IsSpelled (codes "SET " ++ (name ++ 32 ∷ v)) (Set name true)) (sym e) (set_on name p)))
    (choose (codes "SET " ++ (name ++ 32 ∷ value)) value (codes "false") (Set name false) _
    (λ e. inr (subst (λ v. IsSpelled (codes "SET " ++ (name ++ 32 ∷ v)) (Set name false)) (sym e) (set_off name p))) (inl refl))

switched_told : (word name value : List ℕ) → HasNoSpace name → IsToldBy (word ++ 32 ∷ (name ++ 32 ∷ value)) (switched word name value)
unfolding switched
switched_told word name value p =
    cond_both _ (valued name value) Unknown (IsToldBy (word ++ 32 ∷ (name ++ 32 ∷ value))) (λ e.
    let both = and_parts (same_bytes word (codes "SET")) (not (same_bytes name [])) e in
    let is : word ≡ codes "SET" = (bytes_decides word (codes "SET")).0 both.0 in
    subst (λ z. IsToldBy (z ++ 32 ∷ (name ++ 32 ∷ value)) (valued name value)) (sym is) (valued_told name value (is_word name both.1 p))) (λ e. inl refl)

words_told : (ws : List (List ℕ)) → AreWhole ws → IsToldBy (join_with_byte 32 ws) (by_words ws)
words_told [] all = inl refl
words_told (word ∷ []) all = alone_told word
words_told (word ∷ digits ∷ []) all = announced_told word digits
words_told (word ∷ name ∷ value ∷ []) all = switched_told word name value all.1.0
words_told (word ∷ s ∷ t ∷ c ∷ []) all = queried_told word s t c all.1.0 all.1.1.0 all.1.1.1.0
words_told (word ∷ s ∷ t ∷ c ∷ p ∷ []) all = checked_told word s t c p all.1.0 all.1.1.0 all.1.1.1.0 all.1.1.1.1.0
words_told (a ∷ b ∷ c ∷ d ∷ e ∷ f ∷ ws) all = inl refl

-- a line asks for nothing that is known, or for what it is spelled as
pub asked_told : (line : List ℕ) → IsToldBy line (asked line)
unfolding asked
asked_told line = subst (λ l. IsToldBy l (asked line)) (join_with_byte-slice_split 32 line) (words_told (words_of line) (words_whole line))

-- ---- the laws

pub asked_as_spelled : AskedAsSpelled
asked_as_spelled line said known =
    ((λ e. elim (asked_told line) [ inl unknown ↦ absurd (known (sym e ∙ unknown)) | inr is ↦ subst (IsSpelled line) e is ]), spelled_asked line said)

written : (digits : List ℕ) (n : ℕ) → n < 2 ^ 64 → IsDecimal digits n → digits ≡ decimal n
written digits n small (digit d h) = sym (decimal_digit d (omega arith))
written digits n small (more front m d is some h) =
    let before : m ≡ (m * 10 + d) / 10 = omega arith in
    let last : d ≡ (m * 10 + d) % 10 = omega arith in
    ap (λ l. l ++ (48 + d) ∷ []) (written front m (omega (arith, small)) is)
    ∙ ap₂ (λ x y. decimal x ++ (48 + y) ∷ []) before last ∙ sym (decimal_step (m * 10 + d) (omega arith) small)

is_written : (n : ℕ) → n < 2 ^ 64 → IsDecimal (decimal n) n
is_written n small =
    decimal_by_steps (λ m digits. IsDecimal digits m) (λ m l. digit m (omega arith))
    (λ m digits l is. subst (IsDecimal (digits ++ (48 + m % 10) ∷ [])) (omega arith) (more digits (m / 10) (m % 10) is (omega arith) (omega arith))) n small

pub read_as_written : ReadAsWritten
read_as_written digits n small = (written digits n small, (λ e. subst (λ l. IsDecimal l n) (sym e) (is_written n small)))
