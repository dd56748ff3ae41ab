use Rattle.go_client_unit_laws.proofs.OneClient.{apart_of, one_error_of, one_of}
use Rattle.go_client_unit_laws.proofs.OneReading.{Below}
use Rattle.go_client_unit_laws.proofs.laws.one_client_answer.Goals as goal

pub returns-clause-units : goal.returns-clause-units
returns-clause-units c =
    let below : Below = record {
      header = c.one_header.ensures.header;
      cause = c.one_header.ensures.cause;
      either = c.one_header.ensures.either;
      tokens = c.one_list.ensures.one;
      offset = c.one_list.ensures.one_offset;
      apart = c.one_list.ensures.not_both;
      outline = c.one_tree.ensures.same;
      blocks = c.one_list-2.ensures.same;
    } in
    λ p barred tree std_tree client a b s t. one_of below c.one_folder_list.ensures.one c.one_reading.ensures p barred tree std_tree client a b s t

pub returns-clause-refusal : goal.returns-clause-refusal
returns-clause-refusal c =
    let below : Below = record {
      header = c.one_header.ensures.header;
      cause = c.one_header.ensures.cause;
      either = c.one_header.ensures.either;
      tokens = c.one_list.ensures.one;
      offset = c.one_list.ensures.one_offset;
      apart = c.one_list.ensures.not_both;
      outline = c.one_tree.ensures.same;
      blocks = c.one_list-2.ensures.same;
    } in
    λ p barred tree std_tree client d e s t a b. one_error_of below c.one_folder_list.ensures.one c.one_reading.ensures p barred tree std_tree client d e s t a b

pub returns-clause-apart : goal.returns-clause-apart
returns-clause-apart c =
    let below : Below = record {
      header = c.one_header.ensures.header;
      cause = c.one_header.ensures.cause;
      either = c.one_header.ensures.either;
      tokens = c.one_list.ensures.one;
      offset = c.one_list.ensures.one_offset;
      apart = c.one_list.ensures.not_both;
      outline = c.one_tree.ensures.same;
      blocks = c.one_list-2.ensures.same;
    } in
    λ p barred tree std_tree client a e t s b. apart_of below c.one_folder_list.ensures.one c.one_reading.ensures p barred tree std_tree client a e t s b
