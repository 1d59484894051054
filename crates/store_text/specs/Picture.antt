-- A board as a picture, in SVG: squares of 48 by 48, each with a class from h0 to h9 by its count, and the count. Definitions only.
use Rattle.std.specs.Prelude.{ℕ, ◌+◌, ◌-◌, ◌*◌, ◌/◌, ◌%◌, ◌^◌, cond, List, [], ◌++◌, ◌==◌, nat_lt}
use Rattle.text_in.specs.Text.{text}
use Rattle.text_out.specs.Text.{decimal_of}

-- how dark a square is: nine times its count over the largest count of the piece. A count of 2^60 or more, which no store has, is as dark as any
abbrev pub darkness : ℕ → ℕ → ℕ
darkness most n = cond (most == 0) 0 (cond (nat_lt n (2 ^ 60)) (9 * n / most) 9)

-- where a square stands, and the middle of its words
abbrev pub across_at : ℕ → ℕ
across_at i = 48 * (i % 8)

abbrev pub down_at : ℕ → ℕ
down_at i = 48 * (i / 8)

-- a word with a number in it
abbrev pub numbered : List ℕ → ℕ → List ℕ
numbered word n = word ++ decimal_of n

unfoldable pub square_drawn : ℕ → ℕ → ℕ → List ℕ
square_drawn most n i =
    numbered (text "<rect x='") (across_at i)
    ++ (numbered (text "' y='") (down_at i) ++ (numbered (text "' width='48' height='48' class='h") (darkness most n) ++ text "'/>"))

unfoldable pub count_drawn : ℕ → ℕ → List ℕ
count_drawn n i =
    numbered (text "<text x='") (across_at i + 24) ++ (numbered (text "' y='") (down_at i + 29) ++ (numbered (text "'>") n ++ text "</text>"))

-- the count where there is one
abbrev pub count_if_any : ℕ → ℕ → List ℕ
count_if_any n i = cond (n == 0) [] (count_drawn n i)

-- the digit of a rank, left of it
unfoldable pub rank_drawn : ℕ → List ℕ
rank_drawn i = numbered (text "<text x='-14' y='") (down_at i + 29) ++ (numbered (text "'>") (8 - i / 8) ++ text "</text>")

-- the letters of the files, below
unfoldable pub letters_drawn : List ℕ
letters_drawn =
    text "<text x='24' y='402'>a</text><text x='72' y='402'>b</text><text x='120' y='402'>c</text><text x='168' y='402'>d</text>"
    ++ text "<text x='216' y='402'>e</text><text x='264' y='402'>f</text><text x='312' y='402'>g</text><text x='360' y='402'>h</text>\n</g>\n"

-- four boards beside each other, three below each other
unfoldable pub board_at : ℕ → List ℕ
board_at piece =
    numbered (text "<g transform='translate(") (60 + 440 * (piece % 4))
    ++ (numbered (text " ") (100 + 450 * (piece / 4)) ++ text ")'>\n<text class='t' y='-12'>")

-- before all boards: the size, the classes, white paper
unfoldable pub picture_begin : List ℕ
picture_begin =
    text "<svg xmlns='http://www.w3.org/2000/svg' viewBox='0 0 1800 1430' font-family='sans-serif' font-size='11' text-anchor='middle'>\n"
    ++ (text "<style>rect{stroke:#aaa}.t{font-size:18px;text-anchor:start}.h0{fill:#fff}.h1{fill:#fed}.h2{fill:#fdc}.h3{fill:#fdb}.h4{fill:#fca}"
    ++ (text ".h5{fill:#fb8}.h6{fill:#fa6}.h7{fill:#f95}.h8{fill:#e83}.h9{fill:#d62}</style>\n<path d='M0 0h1800v1430H0z' fill='#fff'/>\n"
    ++ text "<text class='t' x='60' y='40'>"))
