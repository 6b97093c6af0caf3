-- One channel of eight frames, and all channels of one of the frames.
use Rattle.std.proofs.Common.{◌≡◌, ◌≢◌, ℕ, zero, suc, ◌+◌, ◌/◌, ◌%◌, ◌<◌, ℤ, Bool, true, false, nat_eq, List, [], ◌∷◌, length, get_or, set}
use Rattle.std.proofs.Common.{refl, ap, ap₂, sym, subst, ◌∙◌, arith}
use Rattle.std.proofs.lemmas.Bool.{eqb-true, eqb-false}
use Rattle.std.proofs.lemmas.List.{get_or_default, set-get_or, get_or-map, length-map}
use Rattle.std.proofs.Math.Seq.{map-set_same}
use Rattle.arith_lanes.specs.Chances.{IsChance}
use Rattle.byte_predictor.specs.Samples.{signed_sum}
use Rattle.byte_predictor.specs.SumsAhead.{SumsAhead, IsAhead}
use Rattle.dst_frames.specs.Tables.{IsBuilt, IsEntry}
use Rattle.dst_frames.specs.Batch.{IsChanceOf}
use Rattle.dst_frames.specs.Eight.{entry_in, state_in, states_at, no_tables, table_at, tables_at}
use Rattle.dst_frames.specs.declared.tables.ChannelTables.{ChannelTables}
use Rattle.dst_frames.specs.declared.state.ChannelState.{ChannelState}
use Rattle.dst_frames.specs.declared.eight.TableNumbers.{TableNumbers}
use Rattle.dst_frames.specs.declared.eight.EightStates.{EightStates}

-- the low half of a chance is its entry
pub chance_of_itself : (p chance : ℕ) → IsChance p chance → IsChanceOf (entry_in chance) chance
chance_of_itself p chance is =
    let same : p ≡ chance % 256 % 128 + 1 = omega (arith, is.prob) in
    record { prob = subst (λ q. IsChance q chance) same is; mark = omega arith }

pub chance_of_entry : (entry chance : ℕ) → IsChance (entry % 128 + 1) chance → chance / 128 % 2 ≡ entry / 128 → entry_in chance ≡ entry
chance_of_entry entry chance is mark = omega (arith, is.prob)

-- one of the frames is another one, or it isn't
pub own_or_other : (n m : ℕ) (P : Type 0) → (n ≡ m → P) → (n ≢ m → P) → P
own_or_other n m P own other = go (nat_eq n m) refl
  where
    go : (e : Bool) → nat_eq n m ≡ e → P
    go true e = own (eqb-true n m e)
    go false e = other (eqb-false n m e)

-- a row of no frames
abbrev pub no_row : EightStates
no_row = record { ahead = record { sums = []; newest = [] }; chances = [] }

-- numbers of no frames
abbrev pub no_numbers : TableNumbers
no_numbers = record { of = [] }

-- a chance tells the entry of the sample at a place
abbrev pub TellsNext : ℕ → ChannelTables → SumsAhead → ℕ → Type 0
TellsNext place table ahead chance = (filter : List ℤ) (probs samples : List ℕ) (half_prob : Bool) → IsBuilt filter probs half_prob table →
    IsAhead filter place samples ahead → IsEntry (signed_sum filter samples) probs (entry_in chance)

-- ---- the channels of a frame
pub length-states : (rows : List EightStates) (n : ℕ) → length (states_at rows n) ≡ length rows
unfolding states_at
length-states [] n = refl
length-states (x ∷ rows) n = ap suc (length-states rows n)

pub get_or-states : (rows : List EightStates) (n c : ℕ) (other : ChannelState) (row : EightStates) → c < length rows →
    get_or (states_at rows n) c other ≡ state_in (get_or rows c row) n
unfolding states_at
get_or-states [] n c other row h = absurd (omega arith)
get_or-states (x ∷ rows) n zero other row h = refl
get_or-states (x ∷ rows) n (suc c) other row h = get_or-states rows n c other row (omega arith)

pub states-set : (rows : List EightStates) (n c : ℕ) (row : EightStates) → states_at (set rows c row) n ≡ set (states_at rows n) c (state_in row n)
unfolding states_at
states-set [] n c row = refl
states-set (x ∷ rows) n zero row = refl
states-set (x ∷ rows) n (suc c) row = ap (λ rest. state_in x n ∷ rest) (states-set rows n c row)

-- where a frame's state is what it was
pub states_same : (rows : List EightStates) (n c : ℕ) (was row : EightStates) → c < length rows → state_in row n ≡ state_in (get_or rows c was) n →
    states_at (set rows c row) n ≡ states_at rows n
states_same rows n c was row h same =
    let other = state_in row n in
    states-set rows n c row ∙ ap (set (states_at rows n) c) (same ∙ sym (get_or-states rows n c other was h)) ∙ set-get_or (states_at rows n) c other

-- ---- the tables of a frame
pub length-tables : (tables : List ChannelTables) (numbers : List TableNumbers) (n : ℕ) → length (tables_at tables numbers n) ≡ length numbers
unfolding tables_at
length-tables tables numbers n = length-map numbers (λ (own : TableNumbers). table_at tables own.of n)

pub get_or-tables : (tables : List ChannelTables) (numbers : List TableNumbers) (n c : ℕ) (other : ChannelTables) (one : TableNumbers) → c < length numbers →
    get_or (tables_at tables numbers n) c other ≡ table_at tables (get_or numbers c one).of n
unfolding tables_at
get_or-tables tables numbers n c other one h = get_or-map (λ (own : TableNumbers). table_at tables own.of n) numbers c one other h

pub table-in : (tables : List ChannelTables) (from : List ℕ) (n : ℕ) (other : ChannelTables) → get_or from n 0 < length tables →
    table_at tables from n ≡ get_or tables (get_or from n 0) other
unfolding table_at
table-in tables from n other h = get_or_default tables (get_or from n 0) no_tables other h

-- a channel gets a number, and that for a frame is the same
pub numbers_on : (tables : List ChannelTables) (numbers : List TableNumbers) (n c : ℕ) (was one : TableNumbers) →
    get_or one.of n 0 ≡ get_or (get_or numbers c was).of n 0 → tables_at tables (set numbers c one) n ≡ tables_at tables numbers n
unfolding tables_at table_at
numbers_on tables numbers n c was one same =
    map-set_same (λ (own : TableNumbers). get_or tables (get_or own.of n 0) no_tables) numbers c one was (ap (λ k. get_or tables k no_tables) same)

-- other tables, of which those of a frame are the same
pub tables_on : (old new : List ChannelTables) (numbers : List TableNumbers) (n : ℕ) →
    ((c : ℕ) (other : TableNumbers) → c < length numbers → table_at new (get_or numbers c other).of n ≡ table_at old (get_or numbers c other).of n) →
    tables_at new numbers n ≡ tables_at old numbers n
unfolding tables_at
tables_on old new [] n same = refl
tables_on old new (x ∷ numbers) n same =
    ap₂ (λ own rest. own ∷ rest) (same 0 x (omega arith)) (tables_on old new numbers n (λ c other h. same (suc c) other (omega arith)))
