-- The words of texts, one text behind another. Assumes nothing.
use mathlib.Core.Path.{◌≡◌, refl, sym, ap, ap₂, subst, ◌∙◌}
use mathlib.Core.Bool.{Bool, true, false, cond, ◌&&◌, ◌||◌, not}
use mathlib.Core.List.{List, [], ◌∷◌, ◌++◌, append-nil, append_assoc}
use mathlib.Core.Option.{Option, none, some}
use Prim.Native.Nat.{ℕ, zero, suc, ◌+◌, ◌-◌, ◌*◌, ◌<◌}
use native.Mathlib.Omega.{arith}
use Rattle.model.specs.Lists.{All, empty, more, snoc}
use Rattle.words.specs.Words.{ascii, decimal}
use Rattle.uppaal.specs.XtaTokens.{Token, word, number, sign, is_digit, is_letter, is_blank, Stage, between, in_word, in_number, in_sign, in_line, in_comment, lost, Turn, to, behind, begins, goes_on, turn, stage_after, words_from, ended, tokens}
use Rattle.uppaal.specs.XtaReading.{value}
use Rattle.uppaal.proofs.XtaNumerals.{Digit, Digits, decimal_digits, Nat32, decimal_value, Begun, decimal_begun, digit_class}

-- ## From a stage to a stage

pub record Lexed (s : Stage) (text : List ℕ) (ts : List Token) (e : Stage) : Type 0 where
  pub stage : stage_after s text ≡ e
  pub words : words_from s text ≡ ts

stage_append : (s : Stage) (a b : List ℕ) → stage_after s (a ++ b) ≡ stage_after (stage_after s a) b
unfolding stage_after
stage_append s [] b = refl
stage_append s (c ∷ a) b = stage_append (turn s c).stage a b

words_append : (s : Stage) (a b : List ℕ) → words_from s (a ++ b) ≡ words_from s a ++ words_from (stage_after s a) b
unfolding stage_after words_from
words_append s [] b = refl
words_append s (c ∷ a) b =
    ap (λ (l : List Token). (turn s c).words ++ l) (words_append (turn s c).stage a b)
    ∙ sym (append_assoc (turn s c).words (words_from (turn s c).stage a) (words_from (stage_after (turn s c).stage a) b))

pub join : {s m e : Stage} {a b : List ℕ} {ts us : List Token} → Lexed s a ts m → Lexed m b us e → Lexed s (a ++ b) (ts ++ us) e
join {s} {m} {e} {a} {b} {ts} {us} p q =
    record {
      stage = stage_append s a b ∙ ap (λ (x : Stage). stage_after x b) p.stage ∙ q.stage;
      words = words_append s a b ∙ ap₂ (λ (l : List Token) (x : Stage). l ++ words_from x b) p.words p.stage ∙ ap (λ (l : List Token). ts ++ l) q.words;
    }

-- ## Numbers

-- a digit, in a word and in a number
in-word : (w bs : List ℕ) → Digits bs → Lexed (in_word w) bs [] (in_word (w ++ bs))
unfolding stage_after words_from
in-word w [] a = record { stage = ap in_word (sym (append-nil w)); words = refl }
in-word w (b ∷ bs) (more d a) =
    let c = digit_class d.number d.below in
    let t : turn (in_word w) b ≡ to (in_word (snoc w b)) = ap (turn (in_word w)) d.same ∙ rw (c.0, c.1) (ap (λ (x : ℕ). to (in_word (snoc w x))) (sym d.same)) in
    let r = in-word (snoc w b) bs a in
    record {
      stage = ap (λ (x : Turn). stage_after x.stage bs) t ∙ r.stage ∙ ap in_word (append_assoc w (b ∷ []) bs);
      words = ap (λ (x : Turn). x.words ++ words_from x.stage bs) t ∙ r.words;
    }

in-number : (n : ℕ) (bs : List ℕ) → Digits bs → Lexed (in_number n) bs [] (in_number (value n bs))
unfolding stage_after words_from
in-number n [] a = record { stage = refl; words = refl }
in-number n (b ∷ bs) (more d a) =
    let c = digit_class d.number d.below in
    let i : is_digit b ≡ true = ap is_digit d.same ∙ c.1 in
    let t : turn (in_number n) b ≡ to (in_number (n * 10 + (b - 48))) = rw i in
    let r = in-number (n * 10 + (b - 48)) bs a in
    record {
      stage = ap (λ (x : Turn). stage_after x.stage bs) t ∙ r.stage;
      words = ap (λ (x : Turn). x.words ++ words_from x.stage bs) t ∙ r.words;
    }

-- behind a letter
pub digits_in_word : (w : List ℕ) (n : ℕ) → Lexed (in_word w) (decimal n) [] (in_word (w ++ decimal n))
digits_in_word w n = in-word w (decimal n) (decimal_digits n)

all_of : {b : ℕ} {bs cs : List ℕ} → cs ≡ b ∷ bs → Digits cs → Digits (b ∷ bs)
all_of e a = subst Digits e a

tail_of : {b : ℕ} {bs : List ℕ} → Digits (b ∷ bs) → Digits bs
tail_of (more d a) = a

pub number_lexed : (n : ℕ) → Nat32 n → Lexed between (decimal n) [] (in_number n)
unfolding stage_after words_from
number_lexed n h =
    let b = decimal_begun n h in
    let c = digit_class b.first b.below in
    let t : begins (48 + b.first) ≡ to (in_number (48 + b.first - 48)) = rw (c.2, c.0, c.1) in
    let a = tail_of (all_of b.same (decimal_digits n)) in
    let r = in-number (48 + b.first - 48) b.others a in
    let z : 0 * 10 + (48 + b.first - 48) ≡ 48 + b.first - 48 = omega arith in
    let v : value (48 + b.first - 48) b.others ≡ n = ap (λ (x : ℕ). value x b.others) (sym z) ∙ sym (ap (value 0) b.same) ∙ decimal_value n h in
    record {
      stage = ap (stage_after between) b.same ∙ ap (λ (x : Turn). stage_after x.stage b.others) t ∙ r.stage ∙ ap in_number v;
      words = ap (words_from between) b.same ∙ ap (λ (x : Turn). x.words ++ words_from x.stage b.others) t ∙ r.words;
    }

-- ## A text whose last word is complete, or will be by what follows

pub data Open : Stage → Type 0 where
  at_rest : Open between
  a_word : {w : List ℕ} → Open (in_word w)
  a_number : {n : ℕ} → Open (in_number n)

abbrev pub flush : Stage → List Token
flush between = []
flush (in_word w) = word w ∷ []
flush (in_number n) = number n ∷ []
flush (in_sign a) = []
flush in_line = []
flush (in_comment b) = []
flush lost = []

pub record Written (text : List ℕ) (ts : List Token) : Type 0 where
  pub before : List Token
  pub stage : Stage
  pub lexed : Lexed between text before stage
  pub open' : Open stage
  pub all : before ++ flush stage ≡ ts

-- what follows begins no letter and no digit
abbrev pub soft : List ℕ → Bool
soft [] = true
soft (b ∷ bs) = not (is_letter b || is_digit b)

not_true : (b : Bool) → not b ≡ true → b ≡ false
not_true true e = sym e
not_true false e = refl

neither : (a b : Bool) → (a || b) ≡ false → b ≡ false
neither true b e = let z : true ≡ false = e in Rattle.model.proofs.Basics.Bools.clash (sym z)
neither false b e = e

breaks : (e : Stage) (b : ℕ) → Open e → is_letter b || is_digit b ≡ false → ((turn e b).stage ≡ (begins b).stage) × ((turn e b).words ≡ flush e ++ (begins b).words)
breaks between b at_rest h = (refl, refl)
breaks (in_word w) b a_word h = (rw h, rw h)
breaks (in_number n) b a_number h = let d = neither (is_letter b) (is_digit b) h in (rw d, rw d)
breaks (in_sign _) b x3 h = elim x3 [ ]
breaks in_line b x3 h = elim x3 [ ]
breaks (in_comment _) b x5 h = elim x5 [ ]
breaks lost b x5 h = elim x5 [ ]

-- the same words behind it
behind_it : {e : Stage} {bs : List ℕ} {us : List Token} {f : Stage} → Open e → (b : ℕ) → is_letter b || is_digit b ≡ false → Lexed between (b ∷ bs) us f → Lexed e (b ∷ bs) (flush e ++ us) f
unfolding stage_after words_from
behind_it {e} {bs} {us} {f} o b h l =
    let t = breaks e b o h in
    record {
      stage = ap (λ (x : Stage). stage_after x bs) t.0 ∙ l.stage;
      words = ap₂ (λ (x : List Token) (y : Stage). x ++ words_from y bs) t.1 t.0 ∙ append_assoc (flush e) (begins b).words (words_from (begins b).stage bs) ∙ ap (λ (x : List Token). flush e ++ x) l.words;
    }

-- ## One behind another

-- a text that ends at rest, and any
infixr 5 ◌closed-then◌
pub ◌closed-then◌ : {a b : List ℕ} {ts us : List Token} → Lexed between a ts between → Written b us → Written (a ++ b) (ts ++ us)
◌closed-then◌ {ts = ts} l w =
    record {
      before = ts ++ w.before;
      stage = w.stage;
      lexed = join l w.lexed;
      open' = w.open';
      all = append_assoc ts w.before (flush w.stage) ∙ ap (λ (x : List Token). ts ++ x) w.all;
    }

pub nothing : Written [] []
unfolding stage_after words_from
nothing = record { before = []; stage = between; lexed = record { stage = refl; words = refl }; open' = at_rest; all = refl }

-- nothing has no words
none_in : {ts : List Token} → Written [] ts → [] ≡ ts
unfolding stage_after words_from
none_in w = ap₂ (λ (l : List Token) (s : Stage). l ++ flush s) w.lexed.words w.lexed.stage ∙ w.all

-- a text, and one that is soft
pub then_soft : (b : List ℕ) {a : List ℕ} {ts us : List Token} → Written a ts → soft b ≡ true → Written b us → Written (a ++ b) (ts ++ us)
then_soft [] {a} {ts} {us} v e w =
    subst (Written (a ++ [])) (ap (λ (l : List Token). ts ++ l) (none_in w)) (subst (λ (l : List Token). Written (a ++ []) l) (sym (append-nil ts)) (subst (λ (l : List ℕ). Written l ts) (sym (append-nil a)) v))
then_soft (b ∷ bs) {a} {ts} {us} v e w =
    let l = behind_it {us = w.before} {f = w.stage} v.open' b (not_true (is_letter b || is_digit b) e) w.lexed in
    record {
      before = v.before ++ (flush v.stage ++ w.before);
      stage = w.stage;
      lexed = join v.lexed l;
      open' = w.open';
      all = ap (λ (x : List Token). x ++ flush w.stage) (sym (append_assoc v.before (flush v.stage) w.before) ∙ ap (λ (x : List Token). x ++ w.before) v.all)
          ∙ append_assoc ts w.before (flush w.stage) ∙ ap (λ (x : List Token). ts ++ x) w.all;
    }

-- the whole text
pub tokens_of : {text : List ℕ} {ts : List Token} → Written text ts → tokens text ≡ some ts
unfolding tokens stage_after words_from
tokens_of {text} {ts} w = ap₂ (λ (s : Stage) (l : List Token). ended s l) w.lexed.stage w.lexed.words ∙ go w.stage w.open' w.all
  where
    go : (s : Stage) → Open s → w.before ++ flush s ≡ ts → ended s w.before ≡ some ts
    go between at_rest e = ap some (sym (append-nil w.before) ∙ e)
    go (in_word v) a_word e = ap some e
    go (in_number n) a_number e = ap some e
    go (in_sign _) x3 e = elim x3 [ ]
    go in_line x3 e = elim x3 [ ]
    go (in_comment _) x5 e = elim x5 [ ]
    go lost x5 e = elim x5 [ ]

-- ## More of it

pub lit : (text : List ℕ) (ts : List Token) → stage_after between text ≡ between → words_from between text ≡ ts → Lexed between text ts between
lit text ts p q = record { stage = p; words = q }

pub closed_written : {a : List ℕ} {ts : List Token} → Lexed between a ts between → Written a ts
closed_written {ts = ts} l = record { before = ts; stage = between; lexed = l; open' = at_rest; all = append-nil ts }

-- a text, closed by another
pub closing : (b : ℕ) (bs : List ℕ) {a : List ℕ} {ts us : List Token} → Written a ts → soft (b ∷ bs) ≡ true → Lexed between (b ∷ bs) us between → Lexed between (a ++ (b ∷ bs)) (ts ++ us) between
closing b bs {a} {ts} {us} v e l =
    let r = join v.lexed (behind_it v.open' b (not_true (is_letter b || is_digit b) e) l) in
    subst (λ (x : List Token). Lexed between (a ++ (b ∷ bs)) x between) (sym (append_assoc v.before (flush v.stage) us) ∙ ap (λ (x : List Token). x ++ us) v.all) r

pub number_written : (n : ℕ) → Nat32 n → Written (decimal n) (number n ∷ [])
number_written n h = record { before = []; stage = in_number n; lexed = number_lexed n h; open' = a_number; all = refl }

-- a letter and a number
pub letter_lexed : (letter : List ℕ) (n : ℕ) → stage_after between letter ≡ in_word letter → words_from between letter ≡ [] → Lexed between (letter ++ decimal n) [] (in_word (letter ++ decimal n))
letter_lexed letter n p q = join (record { stage = p; words = q }) (digits_in_word letter n)

pub letter_written : (letter : List ℕ) (n : ℕ) → stage_after between letter ≡ in_word letter → words_from between letter ≡ [] → Written (letter ++ decimal n) (word (letter ++ decimal n) ∷ [])
letter_written letter n p q =
    record { before = []; stage = in_word (letter ++ decimal n); lexed = letter_lexed letter n p q; open' = a_word; all = refl }

minus_digit : (k : ℕ) → k < 10 → goes_on 45 (48 + k) ≡ behind (sign (45 ∷ [])) (begins (48 + k))
minus_digit zero h = refl
minus_digit (suc zero) h = refl
minus_digit (suc (suc zero)) h = refl
minus_digit (suc (suc (suc zero))) h = refl
minus_digit (suc (suc (suc (suc zero)))) h = refl
minus_digit (suc (suc (suc (suc (suc zero))))) h = refl
minus_digit (suc (suc (suc (suc (suc (suc zero)))))) h = refl
minus_digit (suc (suc (suc (suc (suc (suc (suc zero))))))) h = refl
minus_digit (suc (suc (suc (suc (suc (suc (suc (suc zero)))))))) h = refl
minus_digit (suc (suc (suc (suc (suc (suc (suc (suc (suc zero))))))))) h = refl
minus_digit (suc (suc (suc (suc (suc (suc (suc (suc (suc (suc k)))))))))) h = absurd (omega arith)

-- a minus and a number
pub minus_lexed : (n : ℕ) → Nat32 n → Lexed between (45 ∷ decimal n) (sign (45 ∷ []) ∷ []) (in_number n)
unfolding stage_after words_from
minus_lexed n h =
    let b = decimal_begun n h in
    let t = minus_digit b.first b.below in
    let r = number_lexed n h in
    record {
      stage = ap (stage_after (in_sign 45)) b.same ∙ ap (λ (x : Turn). stage_after x.stage b.others) t ∙ sym (ap (stage_after between) b.same) ∙ r.stage;
      words = ap (words_from (in_sign 45)) b.same ∙ ap (λ (x : Turn). x.words ++ words_from x.stage b.others) t ∙ ap (λ (l : List Token). sign (45 ∷ []) ∷ l) (sym (ap (words_from between) b.same) ∙ r.words);
    }

pub minus_written : (n : ℕ) → Nat32 n → Written (45 ∷ decimal n) (sign (45 ∷ []) ∷ number n ∷ [])
minus_written n h = record { before = sign (45 ∷ []) ∷ []; stage = in_number n; lexed = minus_lexed n h; open' = a_number; all = refl }

-- a word that goes on
pub longer_word : (w : List ℕ) (n : ℕ) → Lexed (in_word w) (95 ∷ 99 ∷ decimal n) [] (in_word (w ++ (95 ∷ 99 ∷ decimal n)))
unfolding stage_after words_from
longer_word w n =
    let r = digits_in_word (snoc (snoc w 95) 99) n in
    record {
      stage = r.stage ∙ ap in_word (append_assoc (snoc w 95) (99 ∷ []) (decimal n) ∙ append_assoc w (95 ∷ []) (99 ∷ decimal n));
      words = r.words;
    }

-- a text, and one at whose first byte it ends, closed
abbrev pub firm : List ℕ → Bool
firm [] = false
firm (b ∷ bs) = not (is_letter b || is_digit b)

pub closed_by : (r : List ℕ) {a : List ℕ} {ts us : List Token} → Written a ts → firm r ≡ true → Lexed between r us between → Lexed between (a ++ r) (ts ++ us) between
closed_by [] v e l = Rattle.model.proofs.Basics.Bools.clash e
closed_by (b ∷ bs) v e l = closing b bs v e l
