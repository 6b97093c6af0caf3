-- A channel of a frame gets its table, or shares that of a channel before it; the tables of the frames before stay what they are.
use Rattle.std.proofs.Common.{◌≡◌, ◌≢◌, ◌⊎◌, inl, inr, ℕ, ◌+◌, ◌*◌, ◌<◌, ◌≤◌, false, List, [], length, get_or, set, get_or-set_same, get_or-set_other}
use Rattle.std.proofs.Common.{length-set, vec_capacity, refl, ap, sym, subst, ◌∙◌, arith}
use Rattle.dst_spec.specs.Header.{Params}
use Rattle.dst_spec.specs.Guess.{filter_of, probs_of}
use Rattle.byte_predictor.specs.Upward.{size_sum}
use Rattle.channel_params.specs.Alike.{AreAlike}
use Rattle.dst_frames.specs.Tables.{IsBuilt}
use Rattle.dst_frames.specs.Eight.{no_tables, table_at, tables_at, tables_in}
use Rattle.dst_frames.specs.Running.{AreNarrow, IsPool, IsGrown, AreTaken}
use Rattle.dst_frames.specs.declared.tables.ChannelTables.{ChannelTables}
use Rattle.dst_frames.specs.declared.eight.TableNumbers.{TableNumbers}
use Rattle.dst_frames.specs.declared.eight.EightTables.{EightTables}
use Rattle.dst_frames.proofs.OneOfEight.{own_or_other, numbers_on, tables_on}
use Rattle.dst_frames.proofs.Beginning.{narrow_set}

-- a channel of a frame with these parameters is decoded by this table
abbrev pub IsFor : Params → ℕ → ChannelTables → Type 0
IsFor P c table = IsBuilt (filter_of P c) (probs_of P c) (get_or P.half_prob c false) table

-- a channel's numbers with another one for a frame
pub record IsSet (n number : ℕ) (old new : TableNumbers) : Type 0 where
  pub own : get_or new.of n 0 ≡ number
  pub others : (m : ℕ) → m ≢ n → get_or new.of m 0 ≡ get_or old.of m 0

-- what holds of any number, where one of them is set
number_set : (numbers : List TableNumbers) (n c number m d : ℕ) (was one other : TableNumbers) (Q : ℕ → Type 0) → c < length numbers →
    IsSet n number (get_or numbers c was) one → (m ≡ n → d ≡ c → Q number) →
    ((m ≢ n) ⊎ (d ≢ c) → (x : TableNumbers) → Q (get_or (get_or numbers d x).of m 0)) → Q (get_or (get_or (set numbers c one) d other).of m 0)
number_set numbers n c number m d was one other Q lt is new old =
    own_or_other d c (Q (get_or (get_or (set numbers c one) d other).of m 0))
    (λ e.
    let here : get_or (set numbers c one) d other ≡ one = ap (λ k. get_or (set numbers c one) k other) e ∙ get_or-set_same numbers c one other lt in
    rw here (own_or_other m n (Q (get_or one.of m 0))
    (λ f. rw (f, is.own) (new f e))
    (λ ne. rw (is.others m ne) (subst (λ k. Q (get_or (get_or numbers k was).of m 0)) e (old (inl ne) was)))))
    (λ ne. rw (get_or-set_other numbers c d one other ne) (old (inr ne) other))

-- ---- channel c of frame n has its table
-- what holds before
pub record HasTablesBefore (P : Params) (n c : ℕ) (eight : EightTables) : Type 0 where
  pub channel : c < length eight.numbers.items
  pub pool : IsPool eight (length eight.numbers.items)
  pub taken : AreTaken eight n c
  pub built : (d : ℕ) (other : TableNumbers) → d < c → IsFor P d (table_at eight.tables.items (get_or eight.numbers.items d other).of n)

-- what then holds
pub record HasTables (P : Params) (n c : ℕ) (old new : EightTables) : Type 0 where
  pub built : (d : ℕ) (other : TableNumbers) → d < c + 1 → IsFor P d (table_at new.tables.items (get_or new.numbers.items d other).of n)
  pub tables : (m : ℕ) → m < n → tables_in new m ≡ tables_in old m
  pub pool : IsPool new (length old.numbers.items)
  pub taken : AreTaken new n (c + 1)

-- The tables that are taken stay what they are, and one more at most is taken.
record TablesStay (old new : EightTables) : Type 0 where
  pub same : (k : ℕ) (other : ChannelTables) → k < old.taken → get_or new.tables.items k other ≡ get_or old.tables.items k other
  pub longer : length old.tables.items ≤ length new.tables.items
  pub narrow : AreNarrow new.tables.items
  pub capacity : vec_capacity new.tables ≡ vec_capacity old.tables
  pub least : old.taken ≤ new.taken
  pub most : new.taken ≤ old.taken + 1
  pub inside : new.taken ≤ length new.tables.items

has_tables : (P : Params) (old new : EightTables) (n c number : ℕ) (was one : TableNumbers) → HasTablesBefore P n c old →
    IsSet n number (get_or old.numbers.items c was) one → new.numbers.items ≡ set old.numbers.items c one → TablesStay old new → number < new.taken →
    IsFor P c (get_or new.tables.items number no_tables) → HasTables P n c old new
unfolding table_at
has_tables P old new n c number was one before is numbers stay inside own =
    let all = old.numbers.items in
    let taken = before.taken in
    let same_below : (m d : ℕ) (other : TableNumbers) → get_or (get_or all d other).of m 0 < old.taken →
    table_at new.tables.items (get_or all d other).of m ≡ table_at old.tables.items (get_or all d other).of m = λ m d other h.
    stay.same (get_or (get_or all d other).of m 0) no_tables h in
    record {
      built = λ d other h. rw numbers (number_set all n c number n d was one other (λ k. IsFor P d (get_or new.tables.items k no_tables)) before.channel is
          (λ _ e. subst (λ k. IsFor P k (get_or new.tables.items number no_tables)) (sym e) own)
          (λ ne x. first P old new n c d ne h x stay before));
      tables = λ m h.
          let ne : m ≢ n = omega arith in
          let number_same : get_or one.of m 0 ≡ get_or (get_or all c was).of m 0 = is.others m ne in
          ap (λ xs. tables_at new.tables.items xs m) numbers ∙ numbers_on new.tables.items all m c was one number_same
          ∙ tables_on old.tables.items new.tables.items all m (λ d other k. same_below m d other (taken.frame m d other h k));
      pool = record {
        are = record {
          count = ap (λ xs. length xs) numbers ∙ length-set all c one;
          narrow = stay.narrow;
          inside = λ m d other h k. rw numbers (number_set all n c number m d was one other (λ x. x < length new.tables.items) before.channel is
              (λ _ _. omega (arith, inside, stay.inside)) (λ _ x. omega (arith, before.pool.are.inside m d x h k, stay.longer)));
        };
        room = rw stay.capacity before.pool.room;
      };
      taken = record {
        frame = λ m d other h k. rw numbers (number_set all n c number m d was one other (λ x. x < new.taken) before.channel is
            (λ e _. absurd (omega arith)) (λ _ x. omega (
              arith,
              taken.frame m d x h (omega (arith, ap (λ xs. length xs) numbers, length-set all c one)),
              stay.least,
            )));
        channel = λ d other h. rw numbers (number_set all n c number n d was one other (λ x. x < new.taken) before.channel is
            (λ _ _. inside) (λ ne x. omega (arith, taken.channel d x (before_it n c d ne h), stay.least)));
        few = rw (numbers, length-set all c one) (omega (arith, taken.few, stay.most));
        inside = stay.inside;
      };
    }
  where
    before_it : (n c d : ℕ) → (n ≢ n) ⊎ (d ≢ c) → d < c + 1 → d < c
    before_it n c d (inl ne) h = absurd (ne refl)
    before_it n c d (inr ne) h = omega arith

    first : (P : Params) (old new : EightTables) (n c d : ℕ) → (n ≢ n) ⊎ (d ≢ c) → d < c + 1 → (x : TableNumbers) → TablesStay old new →
        HasTablesBefore P n c old → IsFor P d (get_or new.tables.items (get_or (get_or old.numbers.items d x).of n 0) no_tables)
    first P old new n c d ne h x stay before =
        let lt = before_it n c d ne h in
        subst (IsFor P d) (sym (stay.same (get_or (get_or old.numbers.items d x).of n 0) no_tables (before.taken.channel d x lt))) (before.built d x lt)

-- the table of a channel before it that has the same parameters
pub shared : (P : Params) (old new : EightTables) (n c alike : ℕ) (was one other : TableNumbers) → HasTablesBefore P n c old →
    IsSet n (get_or (get_or old.numbers.items alike other).of n 0) (get_or old.numbers.items c was) one →
    new.numbers.items ≡ set old.numbers.items c one → new.tables ≡ old.tables → new.taken ≡ old.taken → alike < c → AreAlike P alike c →
    HasTables P n c old new
unfolding table_at
shared P old new n c alike was one other before is numbers tables taken first are =
    let number = get_or (get_or old.numbers.items alike other).of n 0 in
    let items : new.tables.items ≡ old.tables.items = ap (λ v. v.items) tables in
    let inside : number < new.taken = omega (arith, before.taken.channel alike other first, taken) in
    let filter : filter_of P alike ≡ filter_of P c = ap (λ k. get_or P.filters k []) are.filter in
    let probs : probs_of P alike ≡ probs_of P c = ap (λ k. get_or P.probs k []) are.probs in
    let own : IsFor P c (get_or new.tables.items number no_tables) = rw (items, ← filter, ← probs, ← are.half_prob) (before.built alike other first) in
    has_tables P old new n c number was one before is numbers (record {
      same = λ k any h. ap (λ xs. get_or xs k any) items;
      longer = rw items (omega arith);
      narrow = rw items before.pool.are.narrow;
      capacity = ap (λ v. vec_capacity v) tables;
      least = omega (arith, taken);
      most = omega (arith, taken);
      inside = rw (items, taken) before.taken.inside;
    }) inside own

-- the next table of the pool, built for it
pub built_own : (P : Params) (old new : EightTables) (n c : ℕ) (was one : TableNumbers) (grown : List ChannelTables) (table : ChannelTables) →
    HasTablesBefore P n c old → IsSet n old.taken (get_or old.numbers.items c was) one →
    new.numbers.items ≡ set old.numbers.items c one → IsGrown old.tables.items grown (old.taken + 1) → new.tables.items ≡ set grown old.taken table →
    vec_capacity new.tables ≡ vec_capacity old.tables → new.taken ≡ old.taken + 1 → size_sum table.filter < 32768 → IsFor P c table → HasTables P n c old new
built_own P old new n c was one grown table before is numbers g items capacity taken narrow own =
    let next = old.taken in
    let lt : next < length grown = omega (arith, g.enough) in
    let here : IsFor P c (get_or new.tables.items next no_tables) = rw (items, get_or-set_same grown next table no_tables lt) own in
    has_tables P old new n c next was one before is numbers (record {
      same = λ k other h.
          let ne : k ≢ next = omega arith in
          ap (λ xs. get_or xs k other) items ∙ get_or-set_other grown next k table other ne ∙ g.same k other (omega (arith, before.taken.inside));
      longer = rw (items, length-set grown next table) g.longer;
      narrow = rw items (narrow_set grown next table (g.narrow before.pool.are.narrow) lt narrow);
      capacity = capacity;
      least = omega (arith, taken);
      most = omega (arith, taken);
      inside = rw (items, length-set grown next table, taken) g.enough;
    }) (omega (arith, taken)) here

-- the last channel of a frame has its table
pub taken_on : (eight : EightTables) (n c : ℕ) → c ≡ length eight.numbers.items → AreTaken eight n c → AreTaken eight (n + 1) 0
taken_on eight n c all taken = record {
  frame = λ m d other h k. own_or_other m n (get_or (get_or eight.numbers.items d other).of m 0 < eight.taken)
      (λ e. subst (λ i. get_or (get_or eight.numbers.items d other).of i 0 < eight.taken) (sym e) (taken.channel d other (omega arith)))
      (λ ne. taken.frame m d other (omega arith) k);
  channel = λ d other h. absurd (omega arith);
  few = most n (length eight.numbers.items) eight.taken (omega (arith, taken.few));
  inside = taken.inside;
}
  where
    most : (n channels taken : ℕ) → taken ≤ n * channels + channels → taken ≤ (n + 1) * channels + 0
    most n channels taken h = grind arith
