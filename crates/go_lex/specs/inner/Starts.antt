-- What the first bytes tell of a lexeme.
use Rattle.std.specs.Prelude.{ℕ, nat_lt, Bool, false, ◌||◌, ◌&&◌, ◌==◌, if◌then◌else◌, List, [], ◌∷◌}
use Rattle.go_syntax.specs.lexical.Lexemes.{is_space_in_line}
use Rattle.go_syntax.specs.lexical.Numbers.{is_digit_of}
use Rattle.go_lex.specs.inner.DigitLengths.{begins_digit}
use Rattle.go_lex.specs.declared.longest.Start.{Start}
use Rattle.go_lex.specs.declared.longest.Start.TheVariants.{Blank, Newline, Comment, Number, Rune, Quoted, Raw, Name, Sign}

-- the first byte is this one
abbrev pub begins_byte : ℕ → List ℕ → Bool
begins_byte c [] = false
begins_byte c (b ∷ bs) = b == c

-- a byte that may begin a name: an ASCII letter, `_`, or one of a character beyond ASCII
abbrev pub is_name_start : ℕ → Bool
is_name_start b = b == 95 || ((nat_lt 64 b && nat_lt b 91) || ((nat_lt 96 b && nat_lt b 123) || nat_lt 127 b))

abbrev pub start_of_byte : ℕ → List ℕ → Start
start_of_byte b bs =
    if is_space_in_line b then Blank else (if b == 10 then Newline else (if b == 47 && (begins_byte 47 bs || begins_byte 42 bs) then Comment
    else (if is_digit_of 10 b || (b == 46 && begins_digit 10 bs) then Number else (if b == 39 then Rune
    else (if b == 34 then Quoted else (if b == 96 then Raw else (if is_name_start b then Name else Sign)))))))

-- the class of the lexemes that the bytes may begin with
unfoldable pub start_of : List ℕ → Start
start_of [] = Sign
start_of (b ∷ bs) = start_of_byte b bs

-- the bytes begin a number literal
abbrev pub begins_number : List ℕ → Bool
begins_number [] = false
begins_number (b ∷ bs) = is_digit_of 10 b || (b == 46 && begins_digit 10 bs)
