-- Writing a state: word after word, in rising order, the buffer's front comes to be `byte_of`. Assumes nothing.
use Rattle.std.specs.Prelude.{List, ℕ, zero, suc, ◌+◌, ◌*◌, get_or}
use Rattle.endian.specs.Le.{put_le}

-- ---- a record

-- the buffer with the first 32 bytes of record p: "0 present (0 or 1); 1-3 zero; 4-7 pubs; 8-11 subs; 12-15 neighbours;
-- 16-23 pending; 24-31 seen"
unfoldable pub put_head : List ℕ → ℕ → ℕ → ℕ → ℕ → ℕ → ℕ → ℕ → List ℕ
put_head l p head pubs subs neighbours pending seen =
    put_le 8
    (put_le 8 (put_le 4 (put_le 4 (put_le 4 (put_le 4 l (160 * p) head) (160 * p + 4) pubs) (160 * p + 8) subs) (160 * p + 12) neighbours) (160 * p + 16) pending)
    (160 * p + 24) seen

-- the buffer with the first t of "32-159 known subscribers for topics 0 to 31, 4 bytes each"
unfoldable pub put_row : ℕ → List ℕ → List ℕ → ℕ → List ℕ
put_row zero l row p = l
put_row (suc t) l row p = put_le 4 (put_row t l row p) (160 * p + 32 + 4 * t) (get_or row t 0)

-- ---- what concerns messages

-- the buffer with "16-23 pending; 24-31 seen" of the first p records
unfoldable pub put_messages : ℕ → List ℕ → List ℕ → List ℕ → List ℕ
put_messages zero l pending seen = l
put_messages (suc p) l pending seen = put_le 8 (put_le 8 (put_messages p l pending seen) (160 * p + 16) (get_or pending p 0)) (160 * p + 24) (get_or seen p 0)
