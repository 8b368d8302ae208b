-- Records read and written, as closed examples (document 01, A10 and a join). Assumes nothing.
use Rattle.std.specs.Prelude.{ℕ, ◌≡◌, refl, List, [], ◌∷◌}
use Rattle.endian.specs.Le.{le, put_le}
use Rattle.network.specs.Network.{peer, message}
use Rattle.events.specs.declared.Event.TheVariants.{Produce, Join}
use Rattle.events.specs.Event.{taken, refused, ended, no_more, no_sets, skip_ok, pair_ok, or_seven, decode_of, fields_at, reading_at}
use Rattle.events.specs.Writing.{fields_of, put_head, put_fields, record_of}

-- a record by its first three bytes, zero elsewhere
abbrev bytes : ℕ → ℕ → ℕ → List ℕ
bytes code p m = code ∷ p ∷ m ∷ 0 ∷ 0 ∷ 0 ∷ 0 ∷ 0 ∷ 0 ∷ 0 ∷ 0 ∷ 0 ∷ 0 ∷ 0 ∷ 0 ∷ 0 ∷ []

-- A10: code 7; skip with peer 32; forward 0/64
code_7 : reading_at (bytes 7 0 0) 0 ≡ refused 6
unfolding reading_at decode_of fields_at
code_7 = refl

-- 6 is tested before 7
code_7_peer_32 : reading_at (bytes 7 32 0) 0 ≡ refused 6
unfolding reading_at decode_of fields_at
code_7_peer_32 = refl

skip_32 : reading_at (bytes 0 32 0) 0 ≡ refused 7
unfolding reading_at decode_of fields_at or_seven skip_ok
skip_32 = refl

forward_0_64 : reading_at (bytes 2 0 64) 0 ≡ refused 7
unfolding reading_at decode_of fields_at or_seven pair_ok
forward_0_64 = refl

-- produce 0/5 is read, and after it the end
produce_0_5 : (reading_at (bytes 1 0 5) 0 ≡ taken (Produce (peer 0) (message 5))) × (reading_at (bytes 1 0 5) 1 ≡ ended)
unfolding reading_at decode_of fields_at or_seven pair_ok no_sets no_more le
produce_0_5 = (refl, refl)

-- the record of join 1 with subs {0}, pubs {} and neighbours {0, 8}
join_1 : record_of (Join (peer 1) (record { subs = 1; pubs = 0; neighbours = 257 }))
    ≡ 6 ∷ 1 ∷ 0 ∷ 0 ∷ 1 ∷ 0 ∷ 0 ∷ 0 ∷ 0 ∷ 0 ∷ 0 ∷ 0 ∷ 1 ∷ 1 ∷ 0 ∷ 0 ∷ []
unfolding record_of fields_of put_fields put_head put_le
join_1 = refl
