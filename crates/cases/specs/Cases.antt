-- Document 01: "Cases A1 to A12 are shown to hold for the definitions, as one table under a single statement". What a row says is in specs/Rows.antt,
-- over what the entry points promise on bytes; `all_hold` (proofs/Cases.antt) is proved by working the definitions out. Assumes nothing.
use Rattle.std.specs.Prelude.{true, false, List, [], ◌∷◌, ◌++◌}
use Rattle.events.specs.declared.Fields.{Fields}
use Rattle.events.specs.Writing.{fields_mk}
use Rattle.cases.specs.Rows.{join, produce, forward, leave, h_then, Row, answers, image_as, neighbours, drains}

unfoldable pub a7_then : List Fields → List Fields
a7_then more = h_then (produce 0 5 ∷ forward 0 5 ∷ leave 0 ∷ more)

unfoldable pub start : List Row
start =
    -- A1 | blank, no events | 0 0 0
    answers [] 0 0 0
    -- A2 | produce 0/5 | 0 0 4; image as after H
    ∷ answers (h_then (produce 0 5 ∷ [])) 0 0 4
    ∷ image_as (h_then (produce 0 5 ∷ [])) (h_then [])
    -- A3 | produce 0/5 twice | 12 4 4
    ∷ answers (h_then (produce 0 5 ∷ produce 0 5 ∷ [])) 12 4 4
    ∷ []

unfoldable pub refused : List Row
refused =
    -- A4 | produce 1/5 | 10 3 3
    answers (h_then (produce 1 5 ∷ [])) 10 3 3
    -- A5 | forward 0/5 | 13 3 3
    ∷ answers (h_then (forward 0 5 ∷ [])) 13 3 3
    -- A6 | produce 0/5, leave 0 | 14 4 4
    ∷ answers (h_then (produce 0 5 ∷ leave 0 ∷ [])) 14 4 4
    ∷ []

unfoldable pub leaving : List Row
leaving =
    -- A7 | produce 0/5, forward 0/5, leave 0 | 0 0 6; peer 1's neighbours {2}
    answers (a7_then []) 0 0 6
    ∷ neighbours (a7_then []) 1 4
    -- A8 | A7, join 0 (pubs {0}), produce 0/5 | 12 7 7
    ∷ answers (a7_then (join 0 0 1 0 ∷ produce 0 5 ∷ [])) 12 7 7
    ∷ []

unfoldable pub joining : List Row
joining =
    -- A9 | join 3, neighbours {3,4}; then with {4} instead | 15 3 3; 16 3 3
    answers (h_then (join 3 0 0 24 ∷ [])) 15 3 3
    ∷ answers (h_then (join 3 0 0 16 ∷ [])) 16 3 3
    -- A10 | code 7; skip with peer 32; forward 0/64 | 6, 7, 7, each at 3 with 3 accepted
    ∷ answers (h_then (fields_mk 7 0 0 0 0 0 ∷ [])) 6 3 3
    ∷ answers (h_then (fields_mk 0 32 0 0 0 0 ∷ [])) 7 3 3
    ∷ answers (h_then (forward 0 64 ∷ [])) 7 3 3
    ∷ []

unfoldable pub draining : List Row
draining =
    -- A11 | produce 0/5, drain with 2,048; 2; 0 | 3 forwards, 3 rounds, quiet; 2, 2, not; 0, 0, not
    drains (h_then (produce 0 5 ∷ [])) 2048 3 3 true
    ∷ drains (h_then (produce 0 5 ∷ [])) 2 2 2 false
    ∷ drains (h_then (produce 0 5 ∷ [])) 0 0 0 false
    ∷ []

unfoldable pub again : List Row
again =
    -- A12 | blank: join 0 (pubs {0}), produce 0/5, forward 0/5, leave 0, join 0 (pubs {0}), produce 0/5 | 0 0 6
    answers (join 0 0 1 0 ∷ produce 0 5 ∷ forward 0 5 ∷ leave 0 ∷ join 0 0 1 0 ∷ produce 0 5 ∷ []) 0 0 6
    ∷ []

-- The table, in 01's order.
unfoldable pub table : List Row
table = start ++ (refused ++ (leaving ++ (joining ++ (draining ++ again))))
