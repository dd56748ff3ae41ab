mod OpenScopes
